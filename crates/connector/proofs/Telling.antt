-- What the turns of a connector come to, one after another.
use Rattle.std.proofs.Common.{◌≡◌, ◌∙◌, ◌+◌, ℕ, suc, arith, List, [], ◌∷◌, ◌++◌, Bool, true, false}
use Rattle.std.proofs.Common.{cond, refl, sym, subst, ap}
use Rattle.std.specs.List.{flat_map}
use Rattle.std.proofs.lemmas.List.{append-nil, append_assoc}
use Rattle.ev_base.specs.ev_types.specs.declared.upcall.Upcall.{Upcall}
use Rattle.ev_base.specs.ev_types.specs.declared.upcall.Upcall.TheVariants.{Input, Output, Except}
use Rattle.ev_base.specs.ev_types.specs.declared.upcall.Upcall.TheVariants.{Timeout, Notice}
use Rattle.ev_base.specs.declared.dial.Finish.{Finish}
use Rattle.ev_base.specs.declared.dial.Finish.TheVariants as finish
use Rattle.reactor_model.specs.reactor_journal.specs.Event.{Item}
use Rattle.reactor_model.specs.reactor_journal.specs.Past.{count}
use Rattle.reactor_model.specs.Turns.{IsTimeout}
use Rattle.connector.specs.declared.note.ConnectNote.{ConnectNote}
use Rattle.connector.specs.declared.note.ConnectNote.TheVariants as note
use Rattle.connector.specs.Connecting.{Progress, Turns, TurnsBy, Course, at_start, asked, note_of}
use Rattle.connector.specs.Connecting.{answer_to, is_done, ServesOnce}
use Rattle.connector.specs.Laws.{is_made, makes, questions, outputs_until, live_by, live_in}
use Rattle.connector.specs.Laws.{NotesSo, TurnsTellSo}

-- ---- one turn

-- how many questions it makes, by whether the connection is made
abbrev asks_at : Bool → Upcall → ℕ
asks_at true up = 0
asks_at false up = questions up

record Step {N : Type 0} (b : Bool) (p : Progress N) (item : Item (ConnectNote N))
    (next : Progress N) : Type 0 where
  connected : next.connected ≡ cond b true (is_made item.note)
  tries : next.tries ≡ p.tries + asks_at b item.upcall
  live : next.live ≡ p.live ++ live_in item
  late : b ≡ true → is_made item.note ≡ false
  notes : NotesSo b item item.note
  times_out : IsTimeout item.upcall → b ≡ false → item.note ≡ note.TimedOut item.moment

-- a turn that changes nothing
still : {N : Type 0} (b : Bool) (p : Progress N) (item : Item (ConnectNote N)) (next : Progress N)
    (said : ConnectNote N) → p.connected ≡ cond b true (is_made said) → asks_at b item.upcall ≡ 0
    → live_by item said ≡ [] → (b ≡ true → is_made said ≡ false) →
    NotesSo b item said → (IsTimeout item.upcall → b ≡ false → said ≡ note.TimedOut item.moment)
    → item.note ≡ said → next ≡ p → Step b p item next
still {N} b p item next said connected none no_live late notes times is leaves =
    subst (λ (q : Progress N). Step b p item q) (sym leaves) (record {
      connected = subst (λ (n : ConnectNote N). p.connected ≡ cond b true (is_made n)) (sym is)
          connected;
      tries = omega (arith, none);
      live = sym (ap (λ (xs : List (Item N)). p.live ++ xs) (ap (live_by item) is ∙ no_live)
          ∙ append-nil p.live);
      late = λ made. ap is_made is ∙ late made;
      notes = subst (NotesSo b item) (sym is) notes;
      times_out = λ times_up waits. is ∙ times times_up waits;
    })

true_false : true ≡ false → ⊥
true_false q = cc

-- a question
questioned : {N : Type 0} (p : Progress N) (item : Item (ConnectNote N)) (next : Progress N)
    (came : Finish) → item.upcall ≡ Output → item.answer ≡ answer_to came → item.note ≡ note_of came
    → next ≡ asked came p → Step false p item next
questioned {N} p item next came up answers is leaves =
    subst (λ (q : Progress N). Step false p item q) (sym leaves) (record {
      connected = by_connected came ∙ sym (ap is_made is);
      tries = let one : questions item.upcall ≡ 1 = ap questions up in omega (arith, one);
      live = sym (ap (λ (xs : List (Item N)). p.live ++ xs) (ap (live_by item) is ∙ by_live came)
          ∙ append-nil p.live);
      late = λ made. absurd (true_false (sym made));
      notes = subst (NotesSo false item) (sym is) (by_notes came answers);
      times_out = λ times_up _. absurd (subst IsTimeout up times_up);
    })
  where
    by_connected : (came : Finish) → is_done came ≡ is_made {N = N} (note_of came)
    by_connected finish.Done = refl
    by_connected finish.Pause = refl
    by_connected finish.Failed = refl

    by_live : (came : Finish) → live_by item (note_of came) ≡ []
    by_live finish.Done = refl
    by_live finish.Pause = refl
    by_live finish.Failed = refl

    by_notes : (came : Finish) → item.answer ≡ answer_to came → NotesSo false item (note_of came)
    by_notes finish.Done a = (refl, up, a)
    by_notes finish.Pause a = a
    by_notes finish.Failed a = (refl, up, a)

-- a turn of the service
lived : {N : Type 0} (p : Progress N) (item : Item (ConnectNote N)) (next : Progress N)
    → p.connected ≡ true → (h : ServesOnce p item next) → Step true p item next
lived {N} p item next made h =
    subst (λ (q : Progress N). Step true p item q) (sym h.leaves) (record {
      connected = made;
      tries = omega arith;
      live = ap (λ (xs : List (Item N)). p.live ++ xs) (sym (ap (live_by item) h.notes));
      late = λ _. ap is_made h.notes;
      notes = subst (NotesSo true item) (sym h.notes) refl;
      times_out = λ _ waits. absurd (true_false waits);
    })

no_question : (up other : Upcall) → up ≡ other → questions other ≡ 0 → questions up ≡ 0
no_question up other is none = ap questions is ∙ none

by_upcall : {N : Type 0} (b : Bool) (up : Upcall) (p : Progress N) (item : Item (ConnectNote N))
    (next : Progress N) → p.connected ≡ b → item.upcall ≡ up → TurnsBy b up p item next
    → Step b p item next
by_upcall true Input p item next is up h = lived p item next is h
by_upcall true Output p item next is up h = lived p item next is h
by_upcall true Except p item next is up h = lived p item next is h
by_upcall true (Notice kind) p item next is up h = lived p item next is h
by_upcall true (Timeout timer) p item next is up h =
    still true p item next note.Waiting is refl refl (λ _. refl) h.answers
    (λ _ waits. absurd (true_false waits)) h.notes h.leaves
by_upcall false Output p item next is up h =
    questioned p item next h.came up h.turn.answers h.turn.notes h.turn.leaves
by_upcall false (Timeout timer) p item next is up h =
    still false p item next (note.TimedOut item.moment) is
    (no_question item.upcall (Timeout timer) up refl) refl
    (λ made. absurd (true_false (sym made)))
    (refl, subst IsTimeout (sym up) tt, refl, h.answers) (λ _ _. refl) h.notes h.leaves
by_upcall false Input p item next is up h =
    still false p item next note.Waiting is (no_question item.upcall Input up refl) refl
    (λ made. absurd (true_false (sym made))) h.answers
    (λ times _. absurd (subst IsTimeout up times)) h.notes h.leaves
by_upcall false Except p item next is up h =
    still false p item next note.Waiting is (no_question item.upcall Except up refl) refl
    (λ made. absurd (true_false (sym made))) h.answers
    (λ times _. absurd (subst IsTimeout up times)) h.notes h.leaves
by_upcall false (Notice kind) p item next is up h =
    still false p item next note.Waiting is (no_question item.upcall (Notice kind) up refl) refl
    (λ made. absurd (true_false (sym made))) h.answers
    (λ times _. absurd (subst IsTimeout up times)) h.notes h.leaves

step : {N : Type 0} (p : Progress N) (item : Item (ConnectNote N)) (next : Progress N)
    → Turns p item next → Step p.connected p item next
step p item next h = by_upcall p.connected item.upcall p item next refl refl h

-- ---- all turns

-- where a course of two parts passes from one to the other
record Splits {N : Type 0} (start : Progress N) (before rest : List (Item (ConnectNote N)))
    (p : Progress N) : Type 0 where
  mid : Progress N
  first : Course start before mid
  second : Course mid rest p

split : {N : Type 0} (start : Progress N) (before rest : List (Item (ConnectNote N)))
    (p : Progress N) → Course start (before ++ rest) p → Splits start before rest p
split start [] rest p course = record { mid = start; first = refl; second = course }
split start (item ∷ before) rest p course =
    let s = split course.0 before rest p course.2 in
    record { mid = s.mid; first = (course.0, course.1, s.first); second = s.second }

-- what a course comes to that began with the connection made or not
record ComesTo {N : Type 0} (b : Bool) (start : Progress N) (had : List (Item (ConnectNote N)))
    (p : Progress N) : Type 0 where
  once : cond b 1 0 + count makes had ≡ cond p.connected 1 0
  asks : p.tries ≡ start.tries + cond b 0 (outputs_until had)
  live : p.live ≡ start.live ++ flat_map live_in had

one_more : {N : Type 0} (item : Item (ConnectNote N)) (items : List (Item (ConnectNote N)))
    (m : Bool) → makes item ≡ m → count makes (item ∷ items) ≡ cond m 1 0 + count makes items
one_more item items m is = ap (λ (b : Bool). cond b (suc (count makes items)) (count makes items))
    is ∙ by m (count makes items)
  where
    by : (m : Bool) (n : ℕ) → cond m (suc n) n ≡ cond m 1 0 + n
    by true n = omega arith
    by false n = omega arith

comes : {N : Type 0} (b : Bool) (start : Progress N) (had : List (Item (ConnectNote N)))
    (p : Progress N) → start.connected ≡ b → Course start had p → ComesTo b start had p
comes {N} b start [] p is course =
    subst (λ (q : Progress N). ComesTo b start [] q) (sym course) (record {
      once = by_state b is;
      asks = by_asks b;
      live = sym (append-nil start.live);
    })
  where
    by_state : (b : Bool) → start.connected ≡ b → cond b 1 0 + 0 ≡ cond start.connected 1 0
    by_state true e = rw e refl
    by_state false e = rw e refl

    by_asks : (b : Bool) → start.tries ≡ start.tries + cond b 0 0
    by_asks true = omega arith
    by_asks false = omega arith
comes {N} b start (item ∷ had) p is course =
    let next = course.0 in
    let s : Step b start item next = by_upcall b item.upcall start item next is refl
    (subst (λ (x : Bool). TurnsBy x item.upcall start item next) is course.1) in
    by_made b (is_made item.note) refl s
    (comes (cond b true (is_made item.note)) next had p s.connected course.2)
  where
    by_made : (b m : Bool) → makes item ≡ m → Step b start item course.0
        → ComesTo (cond b true m) course.0 had p → ComesTo b start (item ∷ had) p
    by_made true true made s rest = absurd (true_false (sym made ∙ s.late refl))
    by_made true false made s rest = record {
      once = let one = one_more item had false made in omega (arith, one, rest.once);
      asks = let t = s.tries in omega (arith, t, rest.asks);
      live = rest.live ∙ ap (λ (xs : List (Item N)). xs ++ flat_map live_in had) s.live
          ∙ append_assoc start.live (live_in item) (flat_map live_in had);
    }
    by_made false true made s rest = record {
      once = let one = one_more item had true made in omega (arith, one, rest.once);
      asks = let t = s.tries in let u : outputs_until (item ∷ had) ≡ questions item.upcall + 0 =
          ap (λ (m : Bool). questions item.upcall + cond m 0 (outputs_until had)) made in
          omega (arith, t, u, rest.asks);
      live = rest.live ∙ ap (λ (xs : List (Item N)). xs ++ flat_map live_in had) s.live
          ∙ append_assoc start.live (live_in item) (flat_map live_in had);
    }
    by_made false false made s rest = record {
      once = let one = one_more item had false made in omega (arith, one, rest.once);
      asks = let t = s.tries in let u : outputs_until (item ∷ had)
          ≡ questions item.upcall + outputs_until had =
          ap (λ (m : Bool). questions item.upcall + cond m 0 (outputs_until had)) made in
          omega (arith, t, u, rest.asks);
      live = rest.live ∙ ap (λ (xs : List (Item N)). xs ++ flat_map live_in had) s.live
          ∙ append_assoc start.live (live_in item) (flat_map live_in had);
    }

pub tells : {N : Type 0} (had : List (Item (ConnectNote N))) (p : Progress N)
    → Course at_start had p → TurnsTellSo had p
tells {N} had p course =
    let all = comes false at_start had p refl course in record {
      once = let o = all.once in omega (arith, o);
      asks = let a = all.asks in omega (arith, a);
      live = all.live;
      each = λ before behind item is.
          let s = split at_start before (item ∷ behind) p
          (subst (λ (xs : List (Item (ConnectNote N))). Course at_start xs p) is course) in
          let t = step s.mid item s.second.0 s.second.1 in
          record {
            made = s.mid.connected;
            so_far = let o = (comes false at_start before s.mid refl s.first).once in
                omega (arith, o);
            notes = t.notes;
            times_out = t.times_out;
          };
    }
