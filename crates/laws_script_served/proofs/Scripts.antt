-- The script of a text, and the terms that have it.
use Rattle.std.proofs.Common.{◌≡◌, ◌<◌, ◌+◌, arith, ℕ, true, List, [], ◌∷◌, reverse, length}
use Rattle.std.proofs.Common.{slice_get, Option, Some, option_map, refl, sym, ap, ◌∙◌, subst}
use Rattle.std.specs.List.{range_with_len}
use Rattle.std.proofs.lemmas.Bool.{and_from}
use Rattle.std.proofs.lemmas.Option.{slice_get-map, slice_get-get_or, slice_get_within, same_Some}
use Rattle.std.proofs.lemmas.Option.{get_or_from_slice_get}
use Rattle.std.proofs.lemmas.List.{reverse-reverse}
use Rattle.std.proofs.lemmas.List.FromFn.{length-range_with_len, get_or-range_with_len}
use Rattle.ev_base.specs.Sink.{SinkFacts}
use Rattle.ev_base.specs.Story.{OfParts}
use Rattle.laws_script_calls.specs.reactor_model.specs.Volumes.{VolumesFacts}
use Rattle.laws_script_calls.specs.log_handler.specs.declared.note.ServerNote.{ServerNote}
use Rattle.script_net.specs.event_script.specs.Script.{ScriptStep, ScriptGroup, steps_of, opened}
use Rattle.script_net.specs.event_script.specs.Script.{are_steps}
use Rattle.script_net.specs.event_script.specs.Stories.{story, stories}
use Rattle.script_net.specs.event_script.specs.Grammar.{Line, At, Quiet, Stepping, steps_in, Spells}
use Rattle.script_net.specs.event_script.specs.Grammar.{IsScriptText}
use Rattle.script_net.specs.Hosts.{ScriptContent, LaysDown}
use Rattle.script_text.specs.Parsing.{HasGroups}
use Rattle.script_text.proofs.Groups.{steps_are}
use Rattle.laws_script_served.specs.Terms.{HaveScript, terms_of_script}

-- ---- steps

spelled-steps : (raws : List (List ℕ)) (past : List Line) → Spells raws past
    → are_steps (steps_in past) ≡ true
spelled-steps [] [] s = refl
spelled-steps [] (line ∷ past) s = absurd s
spelled-steps (raw ∷ raws) [] s = absurd s
spelled-steps (raw ∷ raws) (At moment ∷ past) s = spelled-steps raws past s.2
spelled-steps (raw ∷ raws) (Quiet ∷ past) s = spelled-steps raws past s.2
spelled-steps (raw ∷ raws) (Stepping step ∷ past) s =
    and_from _ (are_steps (steps_in past)) s.1 (spelled-steps raws past s.2)

pub text-steps : (text : List ℕ) (groups : List ScriptGroup) → IsScriptText text groups
    → are_steps (reverse (steps_of groups)) ≡ true
text-steps text groups is =
    ap (λ g. are_steps (reverse (steps_of g))) is.are
    ∙ ap (λ steps. are_steps (reverse steps)) (steps_are is.past)
    ∙ ap are_steps (reverse-reverse (steps_in is.past)) ∙ spelled-steps _ is.past is.spells

-- ---- stories

pub each-story : (steps : List ScriptStep) (c : ℕ) → c < opened steps
    → slice_get (stories steps) c ≡ Some (OfParts (story c steps))
each-story steps c l =
    let numbers = range_with_len 0 (opened steps) in
    let many : length numbers ≡ opened steps = length-range_with_len 0 (opened steps) in
    slice_get-map (λ n. OfParts (story n steps)) numbers c
    ∙ ap (λ o. option_map (λ n. OfParts (story n steps)) o)
    (slice_get-get_or numbers c 0 (omega (arith, l, many))
    ∙ ap (λ n. Some n) (get_or-range_with_len 0 (opened steps) c 0 l ∙ from-none c))
  where
    from-none : (c : ℕ) → 0 + c ≡ c
    from-none c = omega arith

pub have-script : (connections : ℕ) (idle : Option ℕ) (groups : List ScriptGroup) (o : SinkFacts)
    (v : VolumesFacts ServerNote) → HaveScript (terms_of_script connections idle groups o v) groups
    idle
have-script connections idle groups o v = record {
  groups_are = refl;
  stories_are = record {
    of_listener = refl;
    of_each = λ c l. each-story (steps_of groups) c l;
    idle_is = refl;
  };
  limit = refl;
}

pub lays-down : (connections : ℕ) (idle : Option ℕ) (groups : List ScriptGroup) (o : SinkFacts)
    (v : VolumesFacts ServerNote) (script : ScriptContent) (room : ℕ)
    → HasGroups script room groups → LaysDown (terms_of_script connections idle groups o v) script
lays-down connections idle groups o v script room has = record {
  groups = λ told is. sym (same_Some _ told is) ∙ sym has.plays;
  offers = λ told is. sym (same_Some _ told is) ∙ sym has.offers_are;
  stories = λ k connection story_told here told.
      let within : k < length script.connections =
      slice_get_within script.connections k connection here in
      let few : k < opened (steps_of groups) = subst (λ n. k < n) has.many within in
      sym (same_Some _ story_told (sym (each-story (steps_of groups) k few)
      ∙ ap (λ n. slice_get (stories (steps_of groups)) n) (from-none k) ∙ told))
      ∙ ap OfParts (sym (has.tells k connection within)
      ∙ ap (λ c. c.parts) (get_or_from_slice_get script.connections k connection connection
      here));
} where
  from-none : (k : ℕ) → k ≡ 0 + k
  from-none k = omega arith
