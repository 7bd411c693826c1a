-- What the turns of an acceptor come to.
use Rattle.std.proofs.Common.{◌≡◌, ◌≤◌, ◌<◌, ◌+◌, ◌∙◌, ◌⊎◌, inl, inr, arith, ℕ, suc, cond, Bool}
use Rattle.std.proofs.Common.{true, false, List, [], ◌∷◌, ◌++◌, Option, Some, None, refl, sym}
use Rattle.std.proofs.Common.{subst, ap, append_assoc, append-nil}
use Rattle.std.specs.Prelude.{flat_map, nat_lt}
use Rattle.std.specs.List.{count_by}
use Rattle.std.proofs.lemmas.List.Sums.{sum_by-cons}
use Rattle.std.proofs.lemmas.Bool.Decides.{nat_tests}
use Rattle.ev_base.specs.ev_types.specs.declared.upcall.Upcall.{Upcall}
use Rattle.ev_base.specs.ev_types.specs.declared.upcall.Upcall.TheVariants.{Input, Output, Except}
use Rattle.ev_base.specs.ev_types.specs.declared.upcall.Upcall.TheVariants.{Timeout, Notice}
use Rattle.ev_base.specs.Story.{Offer, Connection, NoneThere, OneFailure, Offering, TakesOffer}
use Rattle.ev_base.specs.Story.{NoOfferLeft}
use Rattle.ev_base.specs.End.{TakesSerial}
use Rattle.reactor_model.specs.reactor_journal.specs.Event.{Item}
use Rattle.log_handler.specs.declared.note.ServerNote.{ServerNote}
use Rattle.log_handler.specs.Laws.{on_input, asks_again, is_input, is_again}
use Rattle.acceptor.specs.Accepting.{Progress, Course, Gives, OneEnd, NoEnd, Failure, ServesAccept}
use Rattle.acceptor.specs.Accepting.{ServesInput, ServesUpcall, MakesNoAccept, at_start}
use Rattle.acceptor.specs.Accepting.{most_connections}
use Rattle.ev_base.specs.Story.{AreNumbered}
use Rattle.acceptor.specs.Laws.{Accounts, TakesFront, TakesOffers, number_in, number_accepted}
use Rattle.acceptor.specs.Laws.{numbers_from, serials_of}

-- ---- the offers that are taken

-- nothing was taken
front-none : (start : Offering) (first : ℕ) → TakesFront start start first 0
front-none start first = record {
  front = [];
  left = refl;
  given = sym (append-nil start.given);
  ends = refl;
  numbered = λ _. refl;
}

offers-none : (start : Option Offering) (first : ℕ) → TakesOffers start start first 0
offers-none None first = tt
offers-none (Some start) first = front-none start first

given-more : (a b c front : List Offer) (offer : Offer) → b ≡ a ++ offer ∷ [] → c ≡ b ++ front
    → c ≡ a ++ offer ∷ front
given-more a b c front offer first next =
    next ∙ ap (λ (xs : List Offer). xs ++ front) first ∙ append_assoc a (offer ∷ []) front

left-more : (a b c front : List Offer) (offer : Offer) → a ≡ offer ∷ b → b ≡ front ++ c
    → a ≡ offer ∷ (front ++ c)
left-more a b c front offer first next = first ∙ ap (λ (xs : List Offer). offer ∷ xs) next

front-end : (start next now : Offering) (first many serial : ℕ)
    → start.left ≡ Connection serial ∷ next.left
    → next.given ≡ start.given ++ Connection serial ∷ [] →
    TakesFront next now (suc first) many → TakesFront start now first (suc many)
front-end start next now first many serial left given rest = record {
  front = Connection serial ∷ rest.front;
  left = left-more start.left next.left now.left rest.front (Connection serial) left rest.left;
  given = given-more start.given next.given now.given rest.front (Connection serial) given
      rest.given;
  ends = ap (λ (n : ℕ). suc n) rest.ends;
  numbered = λ h. let numbered = subst (λ (xs : List Offer). AreNumbered first xs) left h in
      ap (λ (n : ℕ). n ∷ serials_of rest.front) numbered.0
      ∙ ap (λ (xs : List ℕ). first ∷ xs) (rest.numbered numbered.1);
}

front-other : (start next now : Offering) (first many : ℕ) (offer : Offer)
    → serials_of (offer ∷ []) ≡ [] → start.left ≡ offer ∷ next.left
    → next.given ≡ start.given ++ offer ∷ [] →
    TakesFront next now first many → TakesFront start now first many
front-other start next now first many (Connection serial) none left given rest = absurd (cc none)
front-other start next now first many NoneThere none left given rest = record {
  front = NoneThere ∷ rest.front;
  left = left-more start.left next.left now.left rest.front NoneThere left rest.left;
  given = given-more start.given next.given now.given rest.front NoneThere given rest.given;
  ends = rest.ends;
  numbered = λ h. rest.numbered (subst (λ (xs : List Offer). AreNumbered first xs) left h);
}
front-other start next now first many OneFailure none left given rest = record {
  front = OneFailure ∷ rest.front;
  left = left-more start.left next.left now.left rest.front OneFailure left rest.left;
  given = given-more start.given next.given now.given rest.front OneFailure given rest.given;
  ends = rest.ends;
  numbered = λ h. rest.numbered (subst (λ (xs : List Offer). AreNumbered first xs) left h);
}

offers-end : (a b c : Option Offering) (serial : Option ℕ) (first many : ℕ) → TakesSerial a serial b
    → TakesOffers b c (suc first) many → TakesOffers a c first (suc many)
offers-end None None None serial first many m h = tt
offers-end None None (Some c) serial first many m h = absurd h
offers-end None (Some b) c serial first many m h = absurd m
offers-end (Some a) b c None first many m h = absurd m
offers-end (Some a) None c (Some s) first many m h = absurd m
offers-end (Some a) (Some b) None (Some s) first many m h = absurd h
offers-end (Some a) (Some b) (Some c) (Some s) first many m h =
    front-end a b c first many s m.0 m.1 h

offers-other : (a b c : Option Offering) (offer : Offer) (first many : ℕ)
    → serials_of (offer ∷ []) ≡ [] → TakesOffer a offer b → TakesOffers b c first many
    → TakesOffers a c first many
offers-other None None None offer first many none m h = tt
offers-other None None (Some c) offer first many none m h = absurd h
offers-other None (Some b) c offer first many none m h = absurd m
offers-other (Some a) None c offer first many none m h = absurd m
offers-other (Some a) (Some b) None offer first many none m h = absurd h
offers-other (Some a) (Some b) (Some c) offer first many none m h =
    front-other a b c first many offer none m.0 m.1 h

offers-over : (a b c : Option Offering) (first many : ℕ) → NoOfferLeft a b
    → TakesOffers b c first many → TakesOffers a c first many
offers-over None None c first many m h = h
offers-over None (Some b) c first many m h = absurd m
offers-over (Some a) None c first many m h = absurd m
offers-over (Some a) (Some b) c first many m h =
    subst (λ (o : Offering). TakesOffers (Some o) c first many) m.1 h

-- ---- courses

-- how much a turn counts
abbrev once : Bool → ℕ
once b = cond b 1 0

-- what turns come to, from where they began
record From (start : Progress) (had : List (Item ServerNote)) (p : Progress) : Type 0 where
  many : ℕ
  taken : p.taken ≡ start.taken + many
  notes : flat_map number_in had ≡ numbers_from start.taken many
  most : start.taken ≤ most_connections → p.taken ≤ most_connections
  again : count_by asks_again had ≡ many
  accepts : p.taken < most_connections → p.accepts ≡ start.accepts + count_by on_input had
  no_others : p.accepts ≤ start.accepts + count_by on_input had
  offers : TakesOffers start.offering p.offering start.taken many

-- a turn took a connection
record TookOne (p : Progress) (item : Item ServerNote) (q : Progress) : Type 0 where
  notes : number_in item ≡ p.taken ∷ []
  taken : q.taken ≡ suc p.taken
  few : p.taken < most_connections
  again : once (asks_again item) ≡ 1
  accepts : q.accepts ≡ p.accepts + once (on_input item)
  serial : Option ℕ
  offer : TakesSerial p.offering serial q.offering

-- a turn took none
record TookNone (p : Progress) (item : Item ServerNote) (q : Progress) : Type 0 where
  notes : number_in item ≡ []
  taken : q.taken ≡ p.taken
  again : once (asks_again item) ≡ 0
  accepts : p.taken < most_connections → q.accepts ≡ p.accepts + once (on_input item)
  no_others : q.accepts ≤ p.accepts + once (on_input item)
  offers : (c : Option Offering) (first many : ℕ) → TakesOffers q.offering c first many
      → TakesOffers p.offering c first many

more-true : (n : ℕ) → nat_lt n most_connections ≡ true → n < most_connections
more-true n h = grind (arith, nat_tests)

more-false : (n : ℕ) → nat_lt n most_connections ≡ false → n < most_connections → ⊥
more-false n h few = grind (arith, nat_tests)

one-more : (n m : ℕ) → m ≡ suc n → m ≡ n + 1
one-more n m h = omega arith

at-most : (n m : ℕ) → m ≡ n → m ≤ n
at-most n m h = omega arith

took-accept : (gave : Gives) (p q : Progress) (item : Item ServerNote) → item.upcall ≡ Input
    → p.taken < most_connections → ServesAccept gave p item q → TookOne p item q ⊎ TookNone p item q
took-accept (OneEnd serial) p q item input few m =
    let counted : q.accepts ≡ p.accepts + 1 =
    one-more p.accepts q.accepts (ap (λ (r : Progress). r.accepts) m.leaves) in
    inl (record {
      notes = ap (λ (n : ServerNote). number_accepted n) m.notes;
      taken = ap (λ (r : Progress). r.taken) m.leaves;
      few = few;
      again = ap (λ (a : _). once (is_again a)) m.answers;
      accepts = counted ∙ sym (ap (λ (u : Upcall). p.accepts + once (is_input u)) input);
      serial = serial;
      offer = m.offer;
    })
took-accept NoEnd p q item input few m =
    let counted : q.accepts ≡ p.accepts + 1 =
    one-more p.accepts q.accepts (ap (λ (r : Progress). r.accepts) m.leaves) in
    let same : q.accepts ≡ p.accepts + once (on_input item) =
    counted ∙ sym (ap (λ (u : Upcall). p.accepts + once (is_input u)) input) in
    inr (record {
      notes = ap (λ (n : ServerNote). number_accepted n) m.notes;
      taken = ap (λ (r : Progress). r.taken) m.leaves;
      again = ap (λ (a : _). once (is_again a)) m.answers;
      accepts = λ _. same;
      no_others = at-most _ _ same;
      offers = λ c first many h. elim m.offer [
        | inl over ↦ offers-over p.offering q.offering c first many over h
        | inr none ↦ offers-other p.offering q.offering c NoneThere first many refl none h
      ];
    })
took-accept Failure p q item input few m =
    let counted : q.accepts ≡ p.accepts + 1 =
    one-more p.accepts q.accepts (ap (λ (r : Progress). r.accepts) m.leaves) in
    let same : q.accepts ≡ p.accepts + once (on_input item) =
    counted ∙ sym (ap (λ (u : Upcall). p.accepts + once (is_input u)) input) in
    inr (record {
      notes = ap (λ (n : ServerNote). number_accepted n) m.notes;
      taken = ap (λ (r : Progress). r.taken) m.leaves;
      again = ap (λ (a : _). once (is_again a)) m.answers;
      accepts = λ _. same;
      no_others = at-most _ _ same;
      offers = λ c first many h. offers-other p.offering q.offering c OneFailure first many refl
          m.offer h;
    })

longer : (n m : ℕ) → n ≤ n + m
longer n m = omega arith

-- a turn that made no accept, since it is none of input or the acceptor may take no more
took-nothing : (p q : Progress) (item : Item ServerNote) → MakesNoAccept p item q
    → (p.taken < most_connections → once (on_input item) ≡ 0) → TookNone p item q
took-nothing p q item m none =
    let same : q.accepts ≡ p.accepts = ap (λ (r : Progress). r.accepts) m.leaves in record {
      notes = ap (λ (n : ServerNote). number_accepted n) m.notes;
      taken = ap (λ (r : Progress). r.taken) m.leaves;
      again = ap (λ (a : _). once (is_again a)) m.answers;
      accepts = λ few. let no : once (on_input item) ≡ 0 = none few in omega (arith, same, no);
      no_others = subst (λ (n : ℕ). n ≤ p.accepts + once (on_input item)) (sym same)
          (longer p.accepts (once (on_input item)));
      offers = λ c first many h. subst (λ (r : Progress). TakesOffers r.offering c first many)
          m.leaves h;
    }

took-input : (more : Bool) (p q : Progress) (item : Item ServerNote)
    → nat_lt p.taken most_connections ≡ more → item.upcall ≡ Input → ServesInput more p item q
    → TookOne p item q ⊎ TookNone p item q
took-input true p q item few input m =
    took-accept m.gave p q item input (more-true p.taken few) m.serves
took-input false p q item full input m =
    inr (took-nothing p q item m (λ few. absurd (more-false p.taken full few)))

took-turn : (up : Upcall) (p q : Progress) (item : Item ServerNote) → item.upcall ≡ up
    → ServesUpcall up p item q → TookOne p item q ⊎ TookNone p item q
took-turn Input p q item is m = took-input (nat_lt p.taken most_connections) p q item refl is m
took-turn Output p q item is m = inr
    (took-nothing p q item m (λ _. ap (λ (u : Upcall). once (is_input u)) is))
took-turn Except p q item is m = inr
    (took-nothing p q item m (λ _. ap (λ (u : Upcall). once (is_input u)) is))
took-turn (Timeout timer) p q item is m =
    inr (took-nothing p q item m (λ _. ap (λ (u : Upcall). once (is_input u)) is))
took-turn (Notice kind) p q item is m =
    inr (took-nothing p q item m (λ _. ap (λ (u : Upcall). once (is_input u)) is))

count-cons : (test : Item ServerNote → Bool) (item : Item ServerNote) (had : List (Item ServerNote))
    → count_by test (item ∷ had) ≡ once (test item) + count_by test had
count-cons test item had = omega (
  arith,
  sum_by-cons (λ (x : Item ServerNote). once (test x)) item had,
)

from-one : (start next p : Progress) (item : Item ServerNote) (had : List (Item ServerNote))
    → TookOne start item next → From next had p → From start (item ∷ had) p
from-one start next p item had m rest = record {
  many = suc rest.many;
  taken = omega (arith, m.taken, rest.taken);
  notes = ap (λ (xs : List ℕ). xs ++ flat_map number_in had) m.notes
      ∙ ap (λ (xs : List ℕ). start.taken ∷ xs)
      (rest.notes ∙ ap (λ (n : ℕ). numbers_from n rest.many) m.taken);
  most = λ _. rest.most (omega (arith, m.taken, m.few));
  again = omega (arith, m.again, rest.again, count-cons asks_again item had);
  accepts = λ few. let then : p.accepts ≡ next.accepts + count_by on_input had = rest.accepts few in
      omega (arith, m.accepts, then, count-cons on_input item had);
  no_others = omega (arith, m.accepts, rest.no_others, count-cons on_input item had);
  offers = offers-end start.offering next.offering p.offering m.serial start.taken rest.many m.offer
      (subst (λ (n : ℕ). TakesOffers next.offering p.offering n rest.many) m.taken rest.offers);
}

from-none : (start next p : Progress) (item : Item ServerNote) (had : List (Item ServerNote))
    → TookNone start item next → From next had p → From start (item ∷ had) p
from-none start next p item had m rest = record {
  many = rest.many;
  taken = omega (arith, m.taken, rest.taken);
  notes = ap (λ (xs : List ℕ). xs ++ flat_map number_in had) m.notes ∙ rest.notes
      ∙ ap (λ (n : ℕ). numbers_from n rest.many) m.taken;
  most = λ few. rest.most (omega (arith, m.taken, few));
  again = omega (arith, m.again, rest.again, count-cons asks_again item had);
  accepts = λ few.
      let then : p.accepts ≡ next.accepts + count_by on_input had = rest.accepts few in
      let before : start.taken < most_connections = omega (arith, few, m.taken, rest.taken) in
      let one : next.accepts ≡ start.accepts + once (on_input item) = m.accepts before in
      omega (arith, one, then, count-cons on_input item had);
  no_others = omega (arith, m.no_others, rest.no_others, count-cons on_input item had);
  offers = m.offers p.offering start.taken rest.many
      (subst (λ (n : ℕ). TakesOffers next.offering p.offering n rest.many) m.taken rest.offers);
}

from-start : (start p : Progress) → p ≡ start → From start [] p
from-start start p is = subst (λ (q : Progress). From start [] q) (sym is) (record {
  many = 0;
  taken = omega arith;
  notes = refl;
  most = λ few. few;
  again = refl;
  accepts = λ _. omega arith;
  no_others = omega arith;
  offers = offers-none start.offering start.taken;
})

from-course : (start p : Progress) (had : List (Item ServerNote)) → Course start had p
    → From start had p
from-course start p [] course = from-start start p course
from-course start p (item ∷ had) course =
    let rest = from-course course.0 p had course.2 in
    elim (took-turn item.upcall start course.0 item refl course.1) [
      | inl one ↦ from-one start course.0 p item had one rest
      | inr none ↦ from-none start course.0 p item had none rest
    ]

pub accounts : (offering : Option Offering) (had : List (Item ServerNote)) (p : Progress)
    → Course (at_start offering) had p → Accounts offering had p
accounts offering had p course =
    let all = from-course (at_start offering) p had course in
    let taken : p.taken ≡ all.many = omega (arith, all.taken) in record {
      notes = all.notes ∙ ap (λ (n : ℕ). numbers_from 0 n) (sym taken);
      most = all.most (omega arith);
      again = all.again ∙ sym taken;
      accepts = λ few. let same : p.accepts ≡ 0 + count_by on_input had = all.accepts few in
          omega (arith, same);
      no_others = omega (arith, all.no_others);
      offers = subst (λ (n : ℕ). TakesOffers offering p.offering 0 n) (sym taken) all.offers;
    }
