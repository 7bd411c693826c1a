-- The turns of an acceptor over the story of its listener.
use Rattle.std.proofs.Common.{◌≡◌, ◌∙◌, ◌+◌, ◌≤◌, ◌<◌, ◌⊎◌, ◌&&◌, inl, inr, ℕ, suc, arith, Bool}
use Rattle.std.proofs.Common.{true, cond, nat_lt, List, [], ◌∷◌, ◌++◌, Option, Some, None, refl}
use Rattle.std.proofs.Common.{sym, subst, ap, append-nil, append_assoc, ⊎_elim}
use Rattle.std.proofs.lemmas.Bool.{lt-ltb}
use Rattle.event_script.specs.ev_types.specs.declared.upcall.Answer.{Answer}
use Rattle.event_script.specs.ev_types.specs.declared.upcall.Answer.TheVariants.{Keep, Again}
use Rattle.event_script.specs.ev_types.specs.declared.upcall.Upcall.{Upcall}
use Rattle.event_script.specs.ev_types.specs.declared.upcall.Upcall.TheVariants.{Input, Output}
use Rattle.event_script.specs.ev_types.specs.declared.upcall.Upcall.TheVariants.{Except, Timeout}
use Rattle.event_script.specs.ev_types.specs.declared.upcall.Upcall.TheVariants.{Notice}
use Rattle.event_script.specs.ev_base.specs.Story.{Offer, Connection, NoneThere, OneFailure}
use Rattle.event_script.specs.ev_base.specs.Story.{Offering, TakesOffer, NoOfferLeft}
use Rattle.event_script.specs.ev_base.specs.End.{TakesSerial}
use Rattle.acceptor.specs.reactor_journal.specs.Event.{Item}
use Rattle.acceptor.specs.log_handler.specs.declared.note.ServerNote.{ServerNote}
use Rattle.acceptor.specs.log_handler.specs.Laws.{is_input}
use Rattle.acceptor.specs.Accepting.{Progress, Course, ServesUpcall, ServesInput, AcceptsOnce}
use Rattle.acceptor.specs.Accepting.{ServesAccept, OneEnd, NoEnd, Failure, Gives, at_start}
use Rattle.acceptor.specs.Accepting.{most_connections}
use Rattle.event_script.specs.Script.{ScriptStep, Opens, Brings, Shuts, Fails, ListenerFails}
use Rattle.event_script.specs.Script.{opened}
use Rattle.event_script.specs.Stories.{offers}
use Rattle.laws_script_turns.specs.Laws.{pauses_had, is_keep, steps_on_listener, unoffered}

-- how many connections there are among offers, and how many other items
abbrev ends : List Offer → ℕ
ends [] = 0
ends (Connection serial ∷ offers) = ends offers + 1
ends (_ ∷ offers) = ends offers

abbrev rests : List Offer → ℕ
rests [] = 0
rests (Connection serial ∷ offers) = rests offers
rests (_ ∷ offers) = rests offers + 1

ends-append : (a b : List Offer) → ends (a ++ b) ≡ ends a + ends b
ends-append [] b = omega arith
ends-append (Connection serial ∷ a) b = omega (arith, ends-append a b)
ends-append (NoneThere ∷ a) b = ends-append a b
ends-append (OneFailure ∷ a) b = ends-append a b

rests-append : (a b : List Offer) → rests (a ++ b) ≡ rests a + rests b
rests-append [] b = omega arith
rests-append (Connection serial ∷ a) b = rests-append a b
rests-append (NoneThere ∷ a) b = omega (arith, rests-append a b)
rests-append (OneFailure ∷ a) b = omega (arith, rests-append a b)

all_ends : (steps : List ScriptStep) → ends (offers steps) ≡ opened steps
all_ends [] = refl
all_ends (Opens conn ∷ steps) = ap (λ (n : ℕ). n + 1) (all_ends steps)
all_ends (Brings conn bytes ∷ steps) = all_ends steps
all_ends (Shuts conn ∷ steps) = all_ends steps
all_ends (Fails conn ∷ steps) = all_ends steps
all_ends (ListenerFails ∷ steps) = all_ends steps

all_rests : (steps : List ScriptStep) → rests (offers steps) ≡ steps_on_listener steps
all_rests [] = refl
all_rests (Opens conn ∷ steps) = omega (arith, all_rests steps)
all_rests (Brings conn bytes ∷ steps) = omega (arith, all_rests steps)
all_rests (Shuts conn ∷ steps) = omega (arith, all_rests steps)
all_rests (Fails conn ∷ steps) = omega (arith, all_rests steps)
all_rests (ListenerFails ∷ steps) = omega (arith, all_rests steps)

some_rest : (a : Offer) (left rest : List Offer) → left ≡ rest → rests rest ≡ rests left
some_rest a left rest e = ap rests (sym e)

-- what is left of them and has nothing but connections is nothing
none_left : (steps : List ScriptStep) (given left : List Offer) → given ++ left ≡ offers steps
    → rests left ≡ 0 → left ≡ []
none_left [] [] left e none = e
none_left [] (g ∷ given) left e none = absurd (cc e)
none_left (Opens conn ∷ steps) [] left e none = absurd (counted (ap rests e) none)
  where
    counted : rests left ≡ rests (offers steps) + 1 → rests left ≡ 0 → ⊥
    counted h k = omega arith
none_left (Opens conn ∷ steps) (g ∷ []) left e none = absurd (counted (ap rests (tail e)) none)
  where
    tail : g ∷ left ≡ Connection conn ∷ NoneThere ∷ offers steps → left ≡ NoneThere ∷ offers steps
    tail h = cc

    counted : rests left ≡ rests (offers steps) + 1 → rests left ≡ 0 → ⊥
    counted h k = omega arith
none_left (Opens conn ∷ steps) (g ∷ k ∷ given) left e none =
    none_left steps given left (tail e) none
  where
    tail : g ∷ k ∷ (given ++ left) ≡ Connection conn ∷ NoneThere ∷ offers steps
        → given ++ left ≡ offers steps
    tail h = cc
none_left (ListenerFails ∷ steps) [] left e none = absurd (counted (ap rests e) none)
  where
    counted : rests left ≡ rests (offers steps) + 1 → rests left ≡ 0 → ⊥
    counted h k = omega arith
none_left (ListenerFails ∷ steps) (g ∷ given) left e none = none_left steps given left (tail e) none
  where
    tail : g ∷ (given ++ left) ≡ OneFailure ∷ offers steps → given ++ left ≡ offers steps
    tail h = cc
none_left (Brings conn bytes ∷ steps) given left e none = none_left steps given left e none
none_left (Shuts conn ∷ steps) given left e none = none_left steps given left e none
none_left (Fails conn ∷ steps) given left e none = none_left steps given left e none

-- ---- turns

-- The turns so far took so much of the story: as many found no connection as such items were taken,
-- or more once nothing is left.
record Takes (all : List Offer) (quiet : ℕ) (p : Progress) : Type 0 where
  given : List Offer
  left : List Offer
  is : p.offering ≡ Some (record { given = given; left = left })
  whole : given ++ left ≡ all
  taken : p.taken ≡ ends given
  quiets : (quiet ≡ rests given) ⊎ ((left ≡ []) × (rests given ≤ quiet))

same_quiet : (n : ℕ) → n ≡ n + 0
same_quiet n = omega arith

abbrev quiet_more : ℕ → Upcall → Answer → ℕ
quiet_more quiet up answer = quiet + cond (is_input up && is_keep answer) 1 0

-- an offer was taken
record TookOne (old : Offering) (offer : Offer) (new : Option Offering) : Type 0 where
  now : Offering
  is : new ≡ Some now
  left : old.left ≡ offer ∷ now.left
  given : now.given ≡ old.given ++ offer ∷ []

took_one : (old : Offering) (offer : Offer) (new : Option Offering)
    → TakesOffer (Some old) offer new → TookOne old offer new
took_one old offer None h = absurd h
took_one old offer (Some new) h = record { now = new; is = refl; left = h.0; given = h.1 }

record TookEnd (old : Offering) (new : Option Offering) : Type 0 where
  serial : ℕ
  one : TookOne old (Connection serial) new

took_end : (old : Offering) (serial : Option ℕ) (new : Option Offering)
    → TakesSerial (Some old) serial new → TookEnd old new
took_end old None new h = absurd h
took_end old (Some serial) new h =
    record { serial = serial; one = took_one old (Connection serial) new h }

moved : (all given left : List Offer) (offer : Offer) (now : Offering) → given ++ left ≡ all
    → left ≡ offer ∷ now.left → now.given ≡ given ++ offer ∷ [] → now.given ++ now.left ≡ all
moved all given left offer now whole l g =
    ap (λ (x : List Offer). x ++ now.left) g ∙ append_assoc given (offer ∷ []) now.left
    ∙ ap (λ (x : List Offer). given ++ x) (sym l) ∙ whole

not_empty : (offer : Offer) (left rest : List Offer) → left ≡ offer ∷ rest → left ≡ [] → ⊥
not_empty offer left rest e n = cc

keep_more : (quiet : ℕ) (answer : Answer) → answer ≡ Keep
    → quiet_more quiet Input answer ≡ quiet + 1
keep_more quiet answer h = ap (λ (a : Answer). quiet + cond (is_keep a) 1 0) h

again_same : (quiet : ℕ) (answer : Answer) → answer ≡ Again → quiet_more quiet Input answer ≡ quiet
again_same quiet answer h = ap (λ (a : Answer). quiet + cond (is_keep a) 1 0) h
    ∙ sym (same_quiet quiet)

accepts : (all : List Offer) (quiet : ℕ) (gave : Gives) (before after : Progress)
    (item : Item ServerNote) → ServesAccept gave before item after → Takes all quiet before
    → Takes all (quiet_more quiet Input item.answer) after
accepts all quiet (OneEnd serial) before after item h r =
    let t = took_end (record { given = r.given; left = r.left }) serial after.offering
    (subst (λ (o : Option Offering). TakesSerial o serial after.offering) r.is h.offer) in
    let now = t.one.now in
    subst (λ (n : ℕ). Takes all n after) (sym (again_same quiet item.answer h.answers)) (record {
      given = now.given;
      left = now.left;
      is = t.one.is;
      whole = moved all r.given r.left (Connection t.serial) now r.whole t.one.left t.one.given;
      taken = ap (λ (q : Progress). q.taken) h.leaves
          ∙ one_more r.taken (ap ends t.one.given ∙ ends-append r.given (Connection t.serial ∷ []));
      quiets = ⊎_elim (λ e. inl (e ∙ same_rests
          (ap rests t.one.given ∙ rests-append r.given (Connection t.serial ∷ []))))
          (λ e. absurd (not_empty (Connection t.serial) r.left now.left t.one.left e.0)) r.quiets;
    })
  where
    one_more : {n m k : ℕ} → n ≡ m → k ≡ m + 1 → suc n ≡ k
    one_more {n} {m} {k} e f = omega arith

    same_rests : {n k : ℕ} → k ≡ n + 0 → n ≡ k
    same_rests {n} {k} e = omega arith
accepts all quiet NoEnd before after item h r =
    ⊎_elim none some (subst (λ (o : Option Offering). NoOfferLeft o after.offering
    ⊎ TakesOffer o NoneThere after.offering) r.is h.offer)
  where
    none : NoOfferLeft (Some (record { given = r.given; left = r.left })) after.offering
        → Takes all (quiet_more quiet Input item.answer) after
    none n = subst (λ (n : ℕ). Takes all n after) (sym (keep_more quiet item.answer h.answers))
        (by after.offering refl n)
      where
        by : (new : Option Offering) → after.offering ≡ new
            → NoOfferLeft (Some (record { given = r.given; left = r.left })) new
            → Takes all (quiet + 1) after
        by None e n = absurd n
        by (Some now) e n = record {
          given = r.given;
          left = r.left;
          is = e ∙ ap Some n.1;
          whole = r.whole;
          taken = ap (λ (q : Progress). q.taken) h.leaves ∙ r.taken;
          quiets = inr (
            n.0,
            ⊎_elim (λ (q : quiet ≡ rests r.given). omega (arith, q))
                (λ (q : (r.left ≡ []) × (rests r.given ≤ quiet)). let le = q.1 in omega (arith, le))
                r.quiets,
          );
        }

    some : TakesOffer (Some (record { given = r.given; left = r.left })) NoneThere after.offering
        → Takes all (quiet_more quiet Input item.answer) after
    some k =
        let t = took_one (record { given = r.given; left = r.left }) NoneThere after.offering k in
        subst (λ (n : ℕ). Takes all n after) (sym (keep_more quiet item.answer h.answers)) (record {
          given = t.now.given;
          left = t.now.left;
          is = t.is;
          whole = moved all r.given r.left NoneThere t.now r.whole t.left t.given;
          taken = ap (λ (q : Progress). q.taken) h.leaves ∙ r.taken
              ∙ same (ap ends t.given ∙ ends-append r.given (NoneThere ∷ []));
          quiets = ⊎_elim (λ e. inl (more e (ap rests t.given
              ∙ rests-append r.given (NoneThere ∷ []))))
              (λ e. absurd (not_empty NoneThere r.left t.now.left t.left e.0)) r.quiets;
        })
      where
        same : {n k : ℕ} → k ≡ n + 0 → n ≡ k
        same {n} {k} e = omega arith

        more : {n m k : ℕ} → n ≡ m → k ≡ m + 1 → n + 1 ≡ k
        more {n} {m} {k} e f = omega arith
accepts all quiet Failure before after item h r =
    let t = took_one (record { given = r.given; left = r.left }) OneFailure after.offering
    (subst (λ (o : Option Offering). TakesOffer o OneFailure after.offering) r.is h.offer) in
    subst (λ (n : ℕ). Takes all n after) (sym (keep_more quiet item.answer h.answers)) (record {
      given = t.now.given;
      left = t.now.left;
      is = t.is;
      whole = moved all r.given r.left OneFailure t.now r.whole t.left t.given;
      taken = ap (λ (q : Progress). q.taken) h.leaves ∙ r.taken
          ∙ same (ap ends t.given ∙ ends-append r.given (OneFailure ∷ []));
      quiets = ⊎_elim (λ e. inl (more e (ap rests t.given
          ∙ rests-append r.given (OneFailure ∷ []))))
          (λ e. absurd (not_empty OneFailure r.left t.now.left t.left e.0)) r.quiets;
    })
  where
    same : {n k : ℕ} → k ≡ n + 0 → n ≡ k
    same {n} {k} e = omega arith

    more : {n m k : ℕ} → n ≡ m → k ≡ m + 1 → n + 1 ≡ k
    more {n} {m} {k} e f = omega arith

-- a turn without an accept
no_accept : (all : List Offer) (quiet : ℕ) (before after : Progress) → after ≡ before
    → Takes all quiet before → Takes all (quiet + 0) after
no_accept all quiet before after e r =
    subst (λ (n : ℕ). Takes all n after) (same_quiet quiet) (subst (Takes all quiet) (sym e) r)

-- while there are so few connections, it may take one more
may_take : (all : List Offer) (quiet : ℕ) (p : Progress) → ends all < most_connections
    → Takes all quiet p → nat_lt p.taken most_connections ≡ true
may_take all quiet p few r =
    let fewer : ends r.given ≤ ends all =
    le (ends all) (ends r.given) (ends r.left)
    (sym (ap ends r.whole) ∙ ends-append r.given r.left) in
    lt-ltb p.taken most_connections (below p.taken (ends r.given) (ends all) most_connections
    r.taken fewer few)
  where
    le : (n m k : ℕ) → n ≡ m + k → m ≤ n
    le n m k e = omega arith

    below : (n m k l : ℕ) → n ≡ m → m ≤ k → k < l → n < l
    below n m k l e f g = omega arith

served : (up : Upcall) (all : List Offer) (quiet : ℕ) (before after : Progress)
    (item : Item ServerNote) → ends all < most_connections → Takes all quiet before
    → ServesUpcall up before item after → Takes all (quiet_more quiet up item.answer) after
served Input all quiet before after item few r h =
    let s : AcceptsOnce before item after =
    subst (λ (b : Bool). ServesInput b before item after) (may_take all quiet before few r) h in
    accepts all quiet s.gave before after item s.serves r
served (Timeout timer) all quiet before after item few r h =
    no_accept all quiet before after h.leaves r
served Output all quiet before after item few r h = no_accept all quiet before after h.leaves r
served Except all quiet before after item few r h = no_accept all quiet before after h.leaves r
served (Notice kind) all quiet before after item few r h =
    no_accept all quiet before after h.leaves r

course_takes : (all : List Offer) (quiet : ℕ) (start p : Progress) (had : List (Item ServerNote))
    → ends all < most_connections → Takes all quiet start → Course start had p
    → Takes all (quiet + pauses_had had) p
course_takes all quiet start p [] few r course =
    subst (λ (q : Progress). Takes all (quiet + 0) q) (sym course)
    (subst (λ (n : ℕ). Takes all n start) (same_quiet quiet) r)
course_takes all quiet start p (item ∷ had) few r course =
    subst (λ (n : ℕ). Takes all n p) (plus quiet _ (pauses_had had))
    (course_takes all (quiet_more quiet item.upcall item.answer) course.0 p had few
    (served item.upcall all quiet start course.0 item few r course.1) course.2)
  where
    plus : (a b c : ℕ) → (a + b) + c ≡ a + (b + c)
    plus a b c = omega arith

takes_all : (steps : List ScriptStep) (quiet : ℕ) (p : Progress) → quiet ≡ steps_on_listener steps
    → Takes (offers steps) quiet p → p.taken ≡ opened steps
takes_all steps quiet p counts r =
    let none : r.left ≡ [] = ⊎_elim (λ (e : quiet ≡ rests r.given).
    none_left steps r.given r.left r.whole
    (zero quiet (steps_on_listener steps) (rests r.given) (rests r.left) e counts
    (sym (all_rests steps) ∙ sym (ap rests r.whole) ∙ rests-append r.given r.left)))
    (λ (e : (r.left ≡ []) × (rests r.given ≤ quiet)). e.0) r.quiets in
    r.taken ∙ ap ends (sym (append-nil r.given) ∙ ap (λ (x : List Offer). r.given ++ x) (sym none)
    ∙ r.whole) ∙ all_ends steps
  where
    zero : (q s g l : ℕ) → q ≡ g → q ≡ s → s ≡ g + l → l ≡ 0
    zero q s g l e f h = omega arith

pub takes_everything : (steps : List ScriptStep) (had : List (Item ServerNote)) (p : Progress)
    → opened steps < most_connections → Course (at_start (Some (unoffered (offers steps)))) had p
    → pauses_had had ≡ steps_on_listener steps → p.taken ≡ opened steps
takes_everything steps had p few course counts =
    takes_all steps (0 + pauses_had had) p (zero_more (pauses_had had) ∙ counts)
    (course_takes (offers steps) 0 _ p had
    (subst (λ (n : ℕ). n < most_connections) (sym (all_ends steps)) few)
    (record {
      given = [];
      left = offers steps;
      is = refl;
      whole = refl;
      taken = refl;
      quiets = inl refl;
    }) course)
  where
    zero_more : (n : ℕ) → 0 + n ≡ n
    zero_more n = omega arith
