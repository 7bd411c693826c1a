use Rattle.std.proofs.Common.{◌≡◌, ◌∙◌, ◌∷◌, [], ◌++◌, ◌+◌, ◌≤◌, ℕ, Bool, List, length, reverse}
use Rattle.std.proofs.Common.{refl, sym, ap, subst, append_assoc, arith}
use Rattle.std.proofs.lemmas.Bool.Decides.{nat_tests}
use Rattle.std.proofs.lemmas.Grind.{reverse_onto, common_steps}
use Rattle.std.proofs.lemmas.List.{append-nil, reverse-reverse}
use Rattle.script_net.specs.event_script.specs.Grammar.{raw_lines, Spells, groups_of}
use Rattle.script_text.specs.Parsing.{HasGroups, TakesText, Judges}
use Rattle.script_text.proofs.parse.parse_script.Goals as goal

pub loop-rest-init : goal.loop-rest-init
loop-rest-init c = record {
  raws = [];
  past = [];
  spells = tt;
  reads = c.new-reading.ensures.nothing;
  are = refl;
  counts = refl;
  within = omega arith;
  has_room = c.new-reading.ensures.room;
}

more_read : (raws : List (List ℕ)) (first : List ℕ) (left : List (List ℕ))
    → reverse raws ++ first ∷ left ≡ reverse (first ∷ raws) ++ left
more_read raws first left = sym (append_assoc (reverse raws) (first ∷ []) left)
    ∙ ap (λ (ls : List (List ℕ)). ls ++ left) (sym (reverse_onto raws first []))

pub loop-rest-preserved : goal.loop-rest-preserved
loop-rest-preserved c =
    let i = c.loop-rest.invariant in
    let first = c.next_line.result.0.now in
    let behind = c.next_line.result.1.now in
    let t : TakesText c.take.new.self i.past first =
    subst (λ (good : Bool). Judges c.take.new.self i.past first good) c.if-not-branch.false
    (c.in_ok-take.ensures.taken i.past i.reads) in
    record {
      raws = first ∷ i.raws;
      past = t.line ∷ i.past;
      spells = (t.is, t.may, i.spells);
      reads = t.reads;
      are = i.are ∙ ap (λ (ls : List (List ℕ)). reverse i.raws ++ ls) c.next_line.ensures.are
          ∙ more_read i.raws first (raw_lines behind);
      counts = ap (λ (n : ℕ). n + 1) i.counts ∙ omega arith;
      within = omega (arith, i.within, c.next_line.ensures.shorter);
      has_room = c.take.ensures.room ∙ i.has_room;
    }

none_left : (xs : List ℕ) → length xs ≤ 0 → xs ≡ []
none_left [] none = refl
none_left (x ∷ xs) none = absurd (omega arith)

all_read : (text : List ℕ) (raws : List (List ℕ)) (rest : List ℕ)
    → raw_lines text ≡ reverse raws ++ raw_lines rest → rest ≡ [] → raws ≡ reverse (raw_lines text)
all_read text raws rest are none =
    sym (reverse-reverse raws) ∙ ap reverse
    (sym (are ∙ ap (λ (t : List ℕ). reverse raws ++ raw_lines t) none
    ∙ append-nil (reverse raws)))

pub returns-clause-script : goal.returns-clause-script
returns-clause-script c =
    let i = c.loop-rest.invariant in
    let none : c.loop-rest.rest.now ≡ [] =
    none_left c.loop-rest.rest.now (grind
    (arith, nat_tests, common_steps, c.is_empty.ensures, c.loop-rest-test.ensures)) in
    record {
      groups = groups_of i.past;
      is_text = record {
        past = i.past;
        spells =
            subst (λ (raws : List (List ℕ)). Spells raws i.past)
            (all_read c.args.bytes.now i.raws c.loop-rest.rest.now i.are none) i.spells;
        are = refl;
      };
      has = subst (λ (room : ℕ). HasGroups c.in_ok-finish.field-0 room (groups_of i.past))
          i.has_room (c.in_ok-finish.ensures i.past i.reads);
    }
