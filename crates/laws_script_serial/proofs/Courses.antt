-- The turns of a handler over its story are fixed, one by one, by the upcalls and their moments.
use Rattle.std.proofs.Common.{◌≡◌, ◌≢◌, ◌∙◌, ◌⊎◌, inl, inr, ℕ, suc, Bool, true, false, List, []}
use Rattle.std.proofs.Common.{◌∷◌, ◌++◌, Option, Some, None, refl, sym, subst, ap}
use Rattle.std.specs.Prelude.{nat_lt}
use Rattle.laws_script_runs.specs.ev_types.specs.declared.upcall.Answer.{Answer}
use Rattle.laws_script_runs.specs.ev_types.specs.declared.upcall.Answer.TheVariants.{Keep, Again}
use Rattle.laws_script_runs.specs.ev_types.specs.declared.upcall.Upcall.{Upcall}
use Rattle.laws_script_runs.specs.ev_types.specs.declared.upcall.Upcall.TheVariants.{Input, Output}
use Rattle.laws_script_runs.specs.ev_types.specs.declared.upcall.Upcall.TheVariants.{Except}
use Rattle.laws_script_runs.specs.ev_types.specs.declared.upcall.Upcall.TheVariants.{Timeout}
use Rattle.laws_script_runs.specs.ev_types.specs.declared.upcall.Upcall.TheVariants.{Notice}
use Rattle.laws_script_runs.specs.ev_base.specs.Story.{Telling, TellsNext, Offer, Connection}
use Rattle.laws_script_runs.specs.ev_base.specs.Story.{NoneThere, OneFailure, Offering, TakesOffer}
use Rattle.laws_script_runs.specs.ev_base.specs.Story.{NoOfferLeft}
use Rattle.laws_script_runs.specs.ev_base.specs.End.{Accepted, Paused, Faulted, TakesSerial}
use Rattle.laws_script_runs.specs.ev_base.specs.declared.source.Got.{Got}
use Rattle.laws_script_runs.specs.log_lines.specs.declared.end_kind.EndKind.{EndKind}
use Rattle.laws_script_runs.specs.log_lines.specs.declared.end_kind.EndKind.TheVariants as end
use Rattle.laws_script_runs.specs.reactor_journal.specs.Event.{Item}
use Rattle.laws_script_runs.specs.log_handler.specs.declared.note.ServerNote.{ServerNote}
use Rattle.laws_script_runs.specs.log_handler.specs.declared.note.ServerNote.TheVariants as note
use Rattle.laws_script_runs.specs.log_handler.specs.Connection.{Progress, Course, ServesUpcall}
use Rattle.laws_script_runs.specs.log_handler.specs.Connection.{AnswersTimeout, MakesNoRead}
use Rattle.laws_script_runs.specs.log_handler.specs.Connection.{is_idle, piece_room}
use Rattle.laws_script_runs.specs.acceptor.specs.Accepting as accepting
use Rattle.laws_script_runs.specs.acceptor.specs.Accepting.{OneEnd, NoEnd, Failure}
use Rattle.laws_script_runs.specs.acceptor.specs.Accepting.{most_connections}
use Rattle.laws_script_serial.proofs.Same.{same_turn}

-- ---- connections

-- the story of an end that tells it is told further
pub record Tells (p : Progress) : Type 0 where
  pub telling : Telling
  pub is : p.telling ≡ Some telling

tells_next : (old : Option Telling) (room : ℕ) (gave : Got) (bytes : List ℕ) (new : Option Telling)
    → TellsNext old room gave bytes new → (o : Telling) → old ≡ Some o → (n : Telling)
    × (new ≡ Some n)
tells_next None room gave bytes new h o is = absurd (none is)
  where
    none : ◌≡◌ {A = Option Telling} None (Some o) → ⊥
    none q = cc
tells_next (Some old) room gave bytes None h o is = absurd h
tells_next (Some old) room gave bytes (Some new) h o is = (new, refl)

silent_tells : (conn : ℕ) (before : Progress) (answer : Answer) (kept : Option EndKind)
    (item : Item ServerNote) (after : Progress) → MakesNoRead conn before answer kept item after
    → Tells before → Tells after
silent_tells conn before answer kept item after h t =
    record { telling = t.telling; is = ap (λ (p : Progress). p.telling) h.leaves ∙ t.is }

turn_tells : (up : Upcall) (conn : ℕ) (idle : Option ℕ) (before : Progress) (item : Item ServerNote)
    (after : Progress) → ServesUpcall up conn idle before item after → Tells before → Tells after
turn_tells Input conn idle before item after h t =
    let next = tells_next before.telling piece_room h.gave h.bytes after.telling h.tells t.telling
    t.is in
    record { telling = next.0; is = next.1 }
turn_tells Output conn idle before item after h t =
    silent_tells conn before Keep None item after h t
turn_tells Except conn idle before item after h t =
    silent_tells conn before Keep None item after h t
turn_tells (Notice kind) conn idle before item after h t =
    silent_tells conn before Keep None item after h t
turn_tells (Timeout timer) conn idle before item after h t =
    by_quiet (is_idle idle before.last item.moment) h
  where
    by_quiet : (quiet : Bool) → AnswersTimeout quiet conn before item after → Tells after
    by_quiet true h = silent_tells conn before _ _ item after h t
    by_quiet false h = silent_tells conn before _ _ item after h t

-- what goes on, or ends otherwise, did not end for want of memory before
not_lost : (conn : ℕ) (idle : Option ℕ) (next p : Progress) (items : List (Item ServerNote))
    → Course conn idle next items p → p.kept ≢ Some end.NoMemory → next.kept ≢ Some end.NoMemory
not_lost conn idle next p [] course h = λ e. h (ap (λ (q : Progress). q.kept) course ∙ e)
not_lost conn idle next p (item ∷ items) course h = λ e. absurd (other (sym course.1.goes_on ∙ e))
  where
    other : None ≡ Some end.NoMemory → ⊥
    other q = cc

module _ (conn : ℕ) (idle : Option ℕ) where
  -- the same turns lead to the same place
  pub same_course : (start p q : Progress) (items : List (Item ServerNote)) → Tells start
      → p.kept ≢ Some end.NoMemory → q.kept ≢ Some end.NoMemory → Course conn idle start items p
      → Course conn idle start items q → p ≡ q
  same_course start p q [] t mp mq x y = x ∙ sym y
  same_course start p q (item ∷ items) t mp mq x y =
      let s = same_turn conn idle start t.telling item item x.0 y.0 t.is refl refl
      (not_lost conn idle x.0 p items x.2 mp) (not_lost conn idle y.0 q items y.2 mq) x.1 y.1 in
      same_course x.0 p q items (turn_tells item.upcall conn idle start item x.0 x.1.serves t) mp mq
      x.2 (subst (λ (n : Progress). Course conn idle n items q) (sym s.after) y.2)

  -- two turns after the same turns, of one upcall and at one moment, are one
  pub next_turn : (start p q : Progress) (items : List (Item ServerNote)) (a b : Item ServerNote)
      (more other : List (Item ServerNote)) → Tells start → p.kept ≢ Some end.NoMemory
      → q.kept ≢ Some end.NoMemory
      → a.upcall ≡ b.upcall → a.moment ≡ b.moment
      → Course conn idle start ((items ++ a ∷ []) ++ more) p
      → Course conn idle start ((items ++ b ∷ []) ++ other) q → (a.answer ≡ b.answer)
      × (a.note ≡ b.note)
  next_turn start p q [] a b more other t mp mq up moment x y =
      let s = same_turn conn idle start t.telling a b x.0 y.0 t.is up moment
      (not_lost conn idle x.0 p more x.2 mp) (not_lost conn idle y.0 q other y.2 mq) x.1 y.1 in
      (s.answer, s.note_is)
  next_turn start p q (item ∷ items) a b more other t mp mq up moment x y =
      let s = same_turn conn idle start t.telling item item x.0 y.0 t.is refl refl
      (not_lost conn idle x.0 p ((items ++ a ∷ []) ++ more) x.2 mp)
      (not_lost conn idle y.0 q ((items ++ b ∷ []) ++ other) y.2 mq) x.1 y.1 in
      next_turn x.0 p q items a b more other
      (turn_tells item.upcall conn idle start item x.0 x.1.serves t) mp mq up moment x.2
      (subst (λ (n : Progress). Course conn idle n ((items ++ b ∷ []) ++ other) q) (sym s.after)
      y.2)

-- ---- acceptors

-- what a turn of an acceptor says, and where it leads
pub record SaysSo (answer : Answer) (said : ServerNote) (leads : accepting.Progress)
    (item : Item ServerNote) (after : accepting.Progress) : Type 0 where
  pub answers : item.answer ≡ answer
  pub notes : item.note ≡ said
  pub leaves : after ≡ leads

-- by the next offer of the listener's story
abbrev answer_by : List Offer → Answer
answer_by (Connection serial ∷ left) = Again
answer_by _ = Keep

abbrev note_by : ℕ → List Offer → ServerNote
note_by taken (Connection serial ∷ left) = note.Accepted taken
note_by taken (OneFailure ∷ left) = note.ListenerFailed
note_by taken _ = note.NoneWaiting

abbrev leads_by : accepting.Progress → Offering → List Offer → accepting.Progress
leads_by p old (Connection serial ∷ left) =
    record (accepting.after_accept Accepted
    (Some (record { given = old.given ++ Connection serial ∷ []; left = left })) p) {
      taken = suc p.taken;
    }
leads_by p old (OneFailure ∷ left) =
    record (accepting.after_accept Faulted
    (Some (record { given = old.given ++ OneFailure ∷ []; left = left })) p) { failed = true }
leads_by p old (NoneThere ∷ left) =
    accepting.after_accept Paused (Some
    (record { given = old.given ++ NoneThere ∷ []; left = left })) p
leads_by p old [] = accepting.after_accept Paused (Some old) p

-- the offer that was taken is the first that was left
taken_offer : (old : Offering) (offer : Offer) (new : Option Offering) (left : List Offer)
    → old.left ≡ left → TakesOffer (Some old) offer new
    → (rest : List Offer) × (left ≡ offer ∷ rest)
    × (new ≡ Some (record { given = old.given ++ offer ∷ []; left = rest }))
taken_offer old offer None left is h = absurd h
taken_offer old offer (Some new) left is h = (
  new.left,
  sym is ∙ h.0,
  ap (λ (g : List Offer). Some (record { given = g; left = new.left }))
      h.1,
)

none_left : (old : Offering) (new : Option Offering) → NoOfferLeft (Some old) new → (old.left ≡ [])
    × (new ≡ Some old)
none_left old None h = absurd h
none_left old (Some new) h = (h.0, ap Some h.1)

module _ (before : accepting.Progress) (old : Offering) (item : Item ServerNote)
    (after : accepting.Progress) where
  one_end : (serial : Option ℕ) (offering : Option Offering) → offering ≡ Some old
      → TakesSerial offering serial after.offering → item.note ≡ note.Accepted before.taken
      → item.answer ≡ Again
      → after ≡ record (accepting.after_accept Accepted after.offering before) {
        taken = suc before.taken;
      } → SaysSo (answer_by old.left) (note_by before.taken old.left)
      (leads_by before old old.left) item after
  one_end serial None is h notes answers leaves = absurd (none is)
    where
      none : ◌≡◌ {A = Option Offering} None (Some old) → ⊥
      none q = cc
  one_end None (Some given) is h notes answers leaves = absurd h
  one_end (Some serial) (Some given) is h notes answers leaves =
      let same : Some given ≡ Some old = is in
      let took = taken_offer old (Connection serial) after.offering old.left refl
      (subst (λ (o : Option Offering). TakesOffer o (Connection serial) after.offering) same h)
      in
      let to = sym took.1 in
      record {
        answers = answers ∙ ap answer_by to;
        notes = notes ∙ ap (note_by before.taken) to;
        leaves = leaves ∙ ap (λ (o : Option Offering).
            record (accepting.after_accept Accepted o before) { taken = suc before.taken }) took.2
            ∙ ap (leads_by before old) to;
      }

  no_end : before.offering ≡ Some old → accepting.FindsNone before item after
      → SaysSo (answer_by old.left) (note_by before.taken old.left) (leads_by before old old.left)
      item after
  no_end is h = by_offer h.offer
    where
      by_offer : NoOfferLeft before.offering after.offering
          ⊎ TakesOffer before.offering NoneThere after.offering
          → SaysSo (answer_by old.left) (note_by before.taken old.left)
          (leads_by before old old.left) item after
      by_offer (inl none) =
          let n = none_left old after.offering
          (subst (λ (o : Option Offering). NoOfferLeft o after.offering) is none) in
          let to = sym n.0 in
          record {
            answers = h.answers ∙ ap answer_by to;
            notes = h.notes ∙ ap (note_by before.taken) to;
            leaves = h.leaves ∙ ap (λ (o : Option Offering). accepting.after_accept Paused o before)
                n.1 ∙ ap (leads_by before old) to;
          }
      by_offer (inr takes) =
          let took = taken_offer old NoneThere after.offering old.left refl
          (subst (λ (o : Option Offering). TakesOffer o NoneThere after.offering) is takes) in
          let to = sym took.1 in
          record {
            answers = h.answers ∙ ap answer_by to;
            notes = h.notes ∙ ap (note_by before.taken) to;
            leaves = h.leaves ∙ ap (λ (o : Option Offering). accepting.after_accept Paused o before)
                took.2 ∙ ap (leads_by before old) to;
          }

  failure : before.offering ≡ Some old → accepting.FailsOnce before item after
      → SaysSo (answer_by old.left) (note_by before.taken old.left) (leads_by before old old.left)
      item after
  failure is h =
      let took = taken_offer old OneFailure after.offering old.left refl
      (subst (λ (o : Option Offering). TakesOffer o OneFailure after.offering) is h.offer) in
      let to = sym took.1 in
      record {
        answers = h.answers ∙ ap answer_by to;
        notes = h.notes ∙ ap (note_by before.taken) to;
        leaves = h.leaves ∙ ap (λ (o : Option Offering).
            record (accepting.after_accept Faulted o before) { failed = true }) took.2
            ∙ ap (leads_by before old) to;
      }

  accepts_so : (gave : accepting.Gives) → before.offering ≡ Some old
      → accepting.ServesAccept gave before item after
      → SaysSo (answer_by old.left) (note_by before.taken old.left) (leads_by before old old.left)
      item after
  accepts_so (OneEnd serial) is h = one_end serial before.offering is h.offer h.notes h.answers
      h.leaves
  accepts_so NoEnd is h = no_end is h
  accepts_so Failure is h = failure is h

pub record SameAccept (a b : Item ServerNote) (p q : accepting.Progress) : Type 0 where
  pub answer : a.answer ≡ b.answer
  pub note_is : a.note ≡ b.note
  pub after : p ≡ q

pub record Offers (p : accepting.Progress) : Type 0 where
  pub offering : Offering
  pub is : p.offering ≡ Some offering

still_offers : (before : accepting.Progress) (item : Item ServerNote) (after : accepting.Progress)
    → accepting.MakesNoAccept before item after → Offers before → Offers after
still_offers before item after h o =
    record {
      offering = o.offering;
      is = ap (λ (p : accepting.Progress). p.offering) h.leaves ∙ o.is;
    }

leads_offers : (before : accepting.Progress) (old : Offering) (left : List Offer)
    → Offers (leads_by before old left)
leads_offers before old [] = record { offering = old; is = refl }
leads_offers before old (Connection serial ∷ left) = record { offering = _; is = refl }
leads_offers before old (NoneThere ∷ left) = record { offering = _; is = refl }
leads_offers before old (OneFailure ∷ left) = record { offering = _; is = refl }

same_silent : (before : accepting.Progress) (a b : Item ServerNote) (p q : accepting.Progress)
    → accepting.MakesNoAccept before a p → accepting.MakesNoAccept before b q → SameAccept a b p q
same_silent before a b p q x y = record {
  answer = x.answers ∙ sym y.answers;
  note_is = x.notes ∙ sym y.notes;
  after = x.leaves ∙ sym y.leaves;
}

same_accept : (may : Bool) (before : accepting.Progress) (o : Offers before) (a b : Item ServerNote)
    (p q : accepting.Progress) → accepting.ServesInput may before a p
    → accepting.ServesInput may before b q
    → SameAccept a b p q × Offers p
same_accept true before o a b p q x y =
    let s = accepts_so before o.offering a p x.gave o.is x.serves in
    let r = accepts_so before o.offering b q y.gave o.is y.serves in (
      record {
        answer = s.answers ∙ sym r.answers;
        note_is = s.notes ∙ sym r.notes;
        after = s.leaves ∙ sym r.leaves;
      },
      subst Offers (sym s.leaves) (leads_offers before o.offering o.offering.left),
    )
same_accept false before o a b p q x y =
    (same_silent before a b p q x y, still_offers before a p x o)

same_serves : (up : Upcall) (before : accepting.Progress) (o : Offers before)
    (a b : Item ServerNote) (p q : accepting.Progress) → accepting.ServesUpcall up before a p
    → accepting.ServesUpcall up before b q → SameAccept a b p q × Offers p
same_serves Input before o a b p q x y =
    same_accept (nat_lt before.taken most_connections) before o a b p q x y
same_serves Output before o a b p q x y =
    (same_silent before a b p q x y, still_offers before a p x o)
same_serves Except before o a b p q x y =
    (same_silent before a b p q x y, still_offers before a p x o)
same_serves (Timeout timer) before o a b p q x y =
    (same_silent before a b p q x y, still_offers before a p x o)
same_serves (Notice kind) before o a b p q x y =
    (same_silent before a b p q x y, still_offers before a p x o)

pub next_accept : (start p q : accepting.Progress) (items : List (Item ServerNote))
    (a b : Item ServerNote) (more other : List (Item ServerNote)) → Offers start
    → a.upcall ≡ b.upcall
    → accepting.Course start ((items ++ a ∷ []) ++ more) p
    → accepting.Course start ((items ++ b ∷ []) ++ other) q → (a.answer ≡ b.answer)
    × (a.note ≡ b.note)
next_accept start p q [] a b more other o up x y =
    let s = (same_serves a.upcall start o a b x.0 y.0 x.1
    (subst (λ (u : Upcall). accepting.ServesUpcall u start b y.0) (sym up) y.1)).0 in
    (s.answer, s.note_is)
next_accept start p q (item ∷ items) a b more other o up x y =
    let s = same_serves item.upcall start o item item x.0 y.0 x.1 y.1 in
    next_accept x.0 p q items a b more other s.1 up x.2
    (subst (λ (n : accepting.Progress). accepting.Course n ((items ++ b ∷ []) ++ other) q)
    (sym s.0.after) y.2)
