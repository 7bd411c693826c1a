use Rattle.std.proofs.Common.{◌≡◌, ◌∙◌, ◌<◌, get_or, ℕ, List, length, sym, ap, subst, arith}
use Rattle.ev_base.specs.Terms.{Group}
use Rattle.ev_base.specs.Story.{Offer, AreNumbered}
use Rattle.script_net.specs.event_script.specs.Stories.{story, offers}
use Rattle.script_net.specs.event_script.specs.Grammar.{groups_of, steps_in}
use Rattle.script_net.specs.Content.{ConnectionContent}
use Rattle.script_net.specs.Scripts.{offer_views}
use Rattle.script_net.specs.Playable.{AreInOrder, AllWithin, many_steps, many_offered}
use Rattle.script_text.specs.Reading.{played_by}
use Rattle.script_text.specs.Scripts.{Tells, HasRoom}
use Rattle.script_net.specs.event_script.specs.Script.{steps_of, opened}
use Rattle.script_net.specs.Hosts.{ScriptContent}
use Rattle.script_text.proofs.Groups.{told_is, offered_is, opened_is, played_is, steps_are}
use Rattle.script_text.proofs.Playable.{ordered, all_within, few_steps, numbered, all_offered}
use Rattle.script_text.proofs.reading.Reading.finish.Goals as goal

pub new-requires : goal.new-requires
new-requires c =
    let past = c.requires.0 in
    let s = c.requires.2 in
    let r = c.requires.3 in
    let are = c.in_ok-flush.ensures.groups ∙ r.groups in
    let ends = c.flush.ensures.ends in
    let offered = ap (λ v. offer_views v.items) ends.0 ∙ r.offered in
    let many = ap (λ v. length v.items) ends.1 ∙ r.told.opened_are in
    record {
      order = subst (λ (gs : List Group). AreInOrder 0 gs) (sym are)
          (ordered c.requires.1 past s).order;
      within = subst (λ (gs : List Group). AllWithin (length c.flush.new.self.connections.items) gs)
          (sym are) (subst (λ (n : ℕ). AllWithin n (played_by past)) (sym many)
          (all_within c.requires.1 past s));
      steps = omega (arith, few_steps past, ap many_steps are, r.steps, c.flush.ensures.rest.1);
      numbered = subst (λ (os : List Offer). AreNumbered 0 os) (sym offered)
          (numbered c.requires.1 past s);
      all_offered = ap many_offered offered ∙ all_offered (steps_in past) ∙ sym many;
    }

pub returns : goal.returns
returns c = λ past r.
    let same = c.flush.ensures.ends in
    let steps = sym (steps_are past) in
    let is = c.in_ok-script.ensures in
    let made : c.in_ok-script.script.connections ≡ c.args.self.connections.items =
    ap (λ (s : ScriptContent). s.connections) is ∙ ap (λ v. v.items) same.1 in
    record {
      plays = ap (λ (s : ScriptContent). s.groups) is ∙ c.in_ok-flush.ensures.groups ∙ r.groups
          ∙ played_is past;
      offers_are = ap (λ (s : ScriptContent). s.offers) is ∙ ap (λ v. offer_views v.items) same.0
          ∙ r.offered ∙ offered_is (steps_in past) ∙ ap offers steps;
      many = ap length made ∙ r.told.opened_are ∙ opened_is (steps_in past) ∙ ap opened steps;
      tells = λ k d lt.
          subst (λ (cs : List ConnectionContent).
          Tells (get_or cs k d) (story k (steps_of (groups_of past)))) (sym made)
          (r.told.tells k d (subst (λ (cs : List ConnectionContent). k < length cs) made lt)
          ∙ told_is k (steps_in past) ∙ ap (story k) steps);
      has_room = λ k d lt. subst (λ (cs : List ConnectionContent).
          HasRoom (get_or cs k d) c.args.self.room) (sym made)
          (r.told.has_room k d (subst (λ (cs : List ConnectionContent). k < length cs) made lt));
    }
