-- Turns of an acceptor, one after another.
use Rattle.std.proofs.Common.{◌≡◌, ◌⊎◌, inl, inr, ℕ, suc, Bool, true, false, List, [], ◌∷◌, ◌++◌}
use Rattle.std.proofs.Common.{Option, Some, None, refl, sym, subst, ap}
use Rattle.std.specs.Prelude.{nat_lt}
use Rattle.ev_base.specs.ev_types.specs.declared.upcall.Upcall.{Upcall}
use Rattle.ev_base.specs.ev_types.specs.declared.upcall.Upcall.TheVariants.{Input, Output, Except}
use Rattle.ev_base.specs.ev_types.specs.declared.upcall.Upcall.TheVariants.{Timeout, Notice}
use Rattle.ev_base.specs.Story.{Offer, Offering, NoneThere, OneFailure, TakesOffer, NoOfferLeft}
use Rattle.ev_base.specs.KeepsStory.{IsOffering}
use Rattle.ev_base.specs.End.{TakesSerial}
use Rattle.reactor_model.specs.reactor_journal.specs.Event.{Item}
use Rattle.log_handler.specs.declared.note.ServerNote.{ServerNote}
use Rattle.acceptor.specs.Accepting.{Progress, Turns, Course, ServesUpcall, ServesInput}
use Rattle.acceptor.specs.Accepting.{ServesAccept, Gives, OneEnd, NoEnd, Failure, MakesNoAccept}
use Rattle.acceptor.specs.Accepting.{most_connections}
use Rattle.ev_base.specs.Story.{AreNumbered, NumbersFrom}

-- a course and more turns after it
pub course-more : (start : Progress) (had items : List (Item ServerNote)) (p q : Progress)
    → Course start had p → Course p items q → Course start (had ++ items) q
course-more start [] items p q first next =
    subst (λ (from : Progress). Course from items q) first next
course-more start (item ∷ had) items p q first next =
    (first.0, first.1, course-more first.0 had items p q first.2 next)

-- a course of one turn
pub course-one : (item : Item ServerNote) (p q : Progress) → Turns p item q → Course p (item ∷ []) q
course-one item p q turn = (q, turn, refl)

-- ---- how the ends are numbered

pub numbers-serial : (n : ℕ) (a b : Option Offering) (serial : Option ℕ) → NumbersFrom n a
    → TakesSerial a serial b → NumbersFrom (suc n) b
numbers-serial n None None serial h m = h
numbers-serial n None (Some b) serial h m = absurd m
numbers-serial n (Some a) b None h m = absurd m
numbers-serial n (Some a) None (Some s) h m = absurd m
numbers-serial n (Some a) (Some b) (Some s) h m =
    let numbered = subst (λ (left : List Offer). AreNumbered n left) m.0 h in numbered.1

numbers-none : (n : ℕ) (a b : Option Offering) → NumbersFrom n a → NoOfferLeft a b
    ⊎ TakesOffer a NoneThere b → NumbersFrom n b
numbers-none n None None h m = h
numbers-none n None (Some b) h (inl m) = absurd m
numbers-none n None (Some b) h (inr m) = absurd m
numbers-none n (Some a) None h (inl m) = absurd m
numbers-none n (Some a) None h (inr m) = absurd m
numbers-none n (Some a) (Some b) h (inl m) =
    subst (λ (o : Offering). AreNumbered n o.left) (sym m.1) h
numbers-none n (Some a) (Some b) h (inr m) = subst (λ (left : List Offer). AreNumbered n left) m.0 h

numbers-failure : (n : ℕ) (a b : Option Offering) → NumbersFrom n a → TakesOffer a OneFailure b
    → NumbersFrom n b
numbers-failure n None None h m = h
numbers-failure n None (Some b) h m = absurd m
numbers-failure n (Some a) None h m = absurd m
numbers-failure n (Some a) (Some b) h m = subst (λ (left : List Offer). AreNumbered n left) m.0 h

-- the ends still to come are numbered from how many were taken
abbrev pub NumbersRest : Progress → Type 0
NumbersRest p = NumbersFrom p.taken p.offering

numbers-as : (n : ℕ) (q : Progress) → q.taken ≡ n → NumbersFrom n q.offering → NumbersRest q
numbers-as n q is h = subst (λ (m : ℕ). NumbersFrom m q.offering) (sym is) h

numbers-accept : (gave : Gives) (p q : Progress) (item : Item ServerNote)
    → ServesAccept gave p item q → NumbersRest p → NumbersRest q
numbers-accept (OneEnd serial) p q item m h =
    numbers-as (suc p.taken) q (ap (λ (r : Progress). r.taken) m.leaves)
    (numbers-serial p.taken p.offering q.offering serial h m.offer)
numbers-accept NoEnd p q item m h =
    numbers-as p.taken q (ap (λ (r : Progress). r.taken) m.leaves)
    (numbers-none p.taken p.offering q.offering h m.offer)
numbers-accept Failure p q item m h =
    numbers-as p.taken q (ap (λ (r : Progress). r.taken) m.leaves)
    (numbers-failure p.taken p.offering q.offering h m.offer)

numbers-same : (p q : Progress) (item : Item ServerNote) → MakesNoAccept p item q → NumbersRest p
    → NumbersRest q
numbers-same p q item m h = subst (λ (r : Progress). NumbersRest r) (sym m.leaves) h

numbers-input : (more : Bool) (p q : Progress) (item : Item ServerNote) → ServesInput more p item q
    → NumbersRest p → NumbersRest q
numbers-input true p q item m h = numbers-accept m.gave p q item m.serves h
numbers-input false p q item m h = numbers-same p q item m h

numbers-upcall : (up : Upcall) (p q : Progress) (item : Item ServerNote) → ServesUpcall up p item q
    → NumbersRest p → NumbersRest q
numbers-upcall Input p q item m h = numbers-input (nat_lt p.taken most_connections) p q item m h
numbers-upcall Output p q item m h = numbers-same p q item m h
numbers-upcall Except p q item m h = numbers-same p q item m h
numbers-upcall (Timeout timer) p q item m h = numbers-same p q item m h
numbers-upcall (Notice kind) p q item m h = numbers-same p q item m h

pub numbers-course : (start p : Progress) (had : List (Item ServerNote)) → Course start had p
    → NumbersRest start → NumbersRest p
numbers-course start p [] course h = subst (λ (r : Progress). NumbersRest r) (sym course) h
numbers-course start p (item ∷ had) course h =
    numbers-course course.0 p had course.2
    (numbers-upcall item.upcall start course.0 item course.1 h)

-- if the listener tells its story, the end that it gives has the next number
pub told-serial : (n : ℕ) (a b : Option Offering) (serial : Option ℕ) (offers : List Offer)
    → NumbersFrom n a → TakesSerial a serial b → IsOffering a offers → serial ≡ Some n
told-serial n None b serial offers h m told = absurd told
told-serial n (Some a) b None offers h m told = absurd m
told-serial n (Some a) None (Some s) offers h m told = absurd m
told-serial n (Some a) (Some b) (Some s) offers h m told =
    let numbered = subst (λ (left : List Offer). AreNumbered n left) m.0 h in ap Some numbered.0

some-none : (number : ℕ) (serial : Option ℕ) → serial ≡ None → serial ≡ Some number → ⊥
some-none number serial none some = cc

some-same : (s n number : ℕ) → s ≡ n → Some s ≡ Some number → number ≡ n
some-same s n number is some = cc

-- an end that has a number has the next
pub next-serial : (n : ℕ) (a b : Option Offering) (serial : Option ℕ) → NumbersFrom n a
    → TakesSerial a serial b → (number : ℕ) → serial ≡ Some number → number ≡ n
next-serial n None None serial h m number some = absurd (some-none number serial m some)
next-serial n None (Some b) serial h m number some = absurd m
next-serial n (Some a) b None h m number some = absurd m
next-serial n (Some a) None (Some s) h m number some = absurd m
next-serial n (Some a) (Some b) (Some s) h m number some =
    let numbered = subst (λ (left : List Offer). AreNumbered n left) m.0 h in
    some-same s n number numbered.0 some
