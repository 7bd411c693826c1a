-- What came back through a line.
use Rattle.std.proofs.Common.{◌≡◌, Bool, true, false, true≢false, List, [], ◌∷◌, ◌++◌, refl, sym}
use Rattle.std.proofs.Common.{ap, ◌∙◌, append_assoc, append-nil}
use Rattle.std.proofs.lemmas.List.{map-append, flat_map_more}
use Rattle.message_block.specs.Messages.{MessageState}
use Rattle.message_lines.specs.declared.line.Item.{Item}
use Rattle.message_lines.specs.declared.line.Item.TheVariants.{One, Stop}
use Rattle.message_lines.specs.declared.inbox.Inbox.{Inbox}
use Rattle.message_lines.specs.Boxes.{ones, each_of, singly, stop_if, IsIn}

-- one more message goes through
pub ones_more : (messages : List MessageState) (message : MessageState)
    → ones messages ++ One message ∷ [] ≡ ones (messages ++ message ∷ [])
ones_more messages message = sym (map-append One messages (message ∷ []))

-- one item more, message by message
pub singly_more : (items : List Item) (item : Item)
    → singly (items ++ item ∷ []) ≡ singly items ++ each_of item
singly_more items item = sym (flat_map_more each_of [] items item)

-- more messages came, if the end did not
more_came : (got : List Item) (messages more all : List MessageState) (over : Bool) → over ≡ false →
    got ≡ ones messages ++ stop_if over → messages ++ more ≡ all
    → got ++ ones more ≡ ones all ++ stop_if over
more_came got messages more all true going is joined = absurd (true≢false going)
more_came got messages more all false going is joined =
    ap (λ l. l ++ ones more) (is ∙ append-nil (ones messages)) ∙ sym (map-append One messages more)
    ∙ ap ones joined ∙ sym (append-nil (ones all))

-- they are dropped, since one before them was
pub in_dropped : (got : List Item) (base : List MessageState) (inbox : Inbox)
    (more : List MessageState) → inbox.over ≡ false → inbox.lost ≡ true →
    IsIn got base inbox → IsIn (got ++ ones more) base inbox
in_dropped got base inbox more going lost h = record {
  dropped = h.dropped ++ more;
  none = λ e. absurd (true≢false (sym lost ∙ e));
  all = more_came got ((base ++ inbox.messages.items) ++ h.dropped) more _ inbox.over going h.all
      (append_assoc (base ++ inbox.messages.items) h.dropped more);
}

-- they are dropped for want of memory
pub in_lost : (got : List Item) (base : List MessageState) (old new : Inbox)
    (more : List MessageState) → old.over ≡ false → old.lost ≡ false → new.lost ≡ true →
    new.messages.items ≡ old.messages.items → new.over ≡ old.over → IsIn got base old
    → IsIn (got ++ ones more) base new
in_lost got base old new more going whole lost same over h = record {
  dropped = more;
  none = λ e. absurd (true≢false (sym lost ∙ e));
  all = rw (same, over) (more_came got ((base ++ old.messages.items) ++ h.dropped) more
      ((base ++ old.messages.items) ++ more) old.over going h.all
      (ap (λ l. ((base ++ old.messages.items) ++ l) ++ more) (h.none whole)
      ∙ ap (λ l. l ++ more) (append-nil (base ++ old.messages.items))));
}

-- they are kept
pub in_kept : (got : List Item) (base : List MessageState) (old new : Inbox)
    (more : List MessageState) → old.over ≡ false → old.lost ≡ false → new.lost ≡ false →
    new.messages.items ≡ old.messages.items ++ more → new.over ≡ old.over → IsIn got base old
    → IsIn (got ++ ones more) base new
in_kept got base old new more going whole lost joined over h = record {
  dropped = [];
  none = λ _. refl;
  all = rw (joined, over) (more_came got ((base ++ old.messages.items) ++ h.dropped) more
      ((base ++ (old.messages.items ++ more)) ++ []) old.over going h.all
      (ap (λ l. ((base ++ old.messages.items) ++ l) ++ more) (h.none whole)
      ∙ ap (λ l. l ++ more) (append-nil (base ++ old.messages.items))
      ∙ append_assoc base old.messages.items more
      ∙ sym (append-nil (base ++ (old.messages.items ++ more)))));
}

-- the end came
pub in_over : (got : List Item) (base : List MessageState) (old new : Inbox) → old.over ≡ false
    → new.over ≡ true → new.lost ≡ old.lost →
    new.messages.items ≡ old.messages.items → IsIn got base old → IsIn (got ++ Stop ∷ []) base new
in_over got base old new going over lost same h = record {
  dropped = h.dropped;
  none = λ e. h.none (sym lost ∙ e);
  all = rw (same, over) (ap (λ l. l ++ Stop ∷ [])
      (h.all ∙ ap (λ b. ones ((base ++ old.messages.items) ++ h.dropped) ++ stop_if b) going
      ∙ append-nil (ones ((base ++ old.messages.items) ++ h.dropped))));
}

-- nothing came
pub in_none : (got : List Item) (inbox : Inbox) → got ≡ [] → inbox.messages.items ≡ []
    → inbox.over ≡ false → IsIn got [] inbox
in_none got inbox empty none going = record {
  dropped = [];
  none = λ _. refl;
  all = rw (empty, none, going) refl;
}
