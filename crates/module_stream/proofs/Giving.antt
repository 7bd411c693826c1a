-- What a worker has given.
use Rattle.std.proofs.Common.{◌≡◌, true, false, List, [], ◌∷◌, ◌++◌, refl, sym, ap, ◌∙◌, append-nil}
use Rattle.std.proofs.Common.{subst, Bool}
use Rattle.std.proofs.lemmas.List.{map-append}
use Rattle.std.proofs.lemmas.Grind.{flat_map-append}
use Rattle.crossbeam_queue.specs.Passes.{view}
use Rattle.message_block.specs.Messages.{MessageState}
use Rattle.message_lines.specs.declared.line.Item.TheVariants.{One}
use Rattle.module_stream.specs.declared.work.Worker.{Worker}
use Rattle.message_lines.specs.Lines.{log}
use Rattle.message_lines.specs.Boxes.{ones, each_of, singly}
use Rattle.module_stream.specs.Progress.{Gives, Progress}
use Rattle.module_stream.specs.Works.{HasGiven, Gave, IsSameRest}

-- items of one message each
pub singly_ones : (messages : List MessageState) → singly (ones messages) ≡ ones messages
singly_ones [] = refl
singly_ones (message ∷ messages) = ap (λ l. One message ∷ l) (singly_ones messages)

-- nothing is gathered: what was sent is all that was given
pub given_all : {T : Type 0} (sent : List MessageState) (worker : Worker T)
    (h : HasGiven sent worker) → worker.gathered.messages.items ≡ [] → singly h.items ≡ ones sent
given_all sent worker h none = sym (append-nil (singly h.items))
    ∙ ap (λ l. singly h.items ++ ones l) (sym none) ∙ h.all

-- more was sent one by one, with nothing gathered before and after
pub given_more : {T : Type 0} (sent out : List MessageState) (old new : Worker T)
    (h : HasGiven sent old) → old.gathered.messages.items ≡ []
    → view new.puts ≡ log true false (h.items ++ ones out) [] → new.gathered.messages.items ≡ []
    → HasGiven (sent ++ out) new
given_more sent out old new h none puts none' = record {
  items = h.items ++ ones out;
  puts = puts;
  all = ap (λ l. singly (h.items ++ ones out) ++ ones l) none'
      ∙ append-nil (singly (h.items ++ ones out)) ∙ flat_map-append each_of h.items (ones out)
      ∙ ap (λ l. l ++ singly (ones out)) (given_all sent old h none)
      ∙ ap (λ l. ones sent ++ l) (singly_ones out) ∙ sym (map-append One sent out);
}

-- what was gathered was sent
pub gave_same : {T : Type 0} (gives : T → Gives) (first : Gives) (taken sent : List MessageState)
    (old new : Worker T) → Gave gives first taken sent old → HasGiven sent new → IsSameRest old new
    → Gave gives first taken sent new
gave_same {T = T} gives first taken sent old new h given same = record {
  given = given;
  progress = subst (λ (lost : Bool). Progress first taken sent lost (gives new.task)) (sym same.2)
      (subst (λ (task : T). Progress first taken sent old.lost (gives task)) (sym same.0)
      h.progress);
}
