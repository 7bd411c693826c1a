-- Entries that change neither which events are open nor that a reactor was stopped.
use Rattle.std.proofs.Common.{map, ℕ, ◌≡◌, Bool, true, false, not, List, [], ◌∷◌, ◌++◌, refl, sym}
use Rattle.std.proofs.Common.{ap, ◌∙◌, subst, Option, Some, None}
use Rattle.std.specs.Prelude.{if◌then◌else◌}
use Rattle.std.proofs.lemmas.List.{append-nil, append_assoc}
use Rattle.ev_base.specs.ev_types.specs.declared.upcall.Handle.{Handle}
use Rattle.ev_base.specs.ev_types.specs.declared.upcall.Kind.{Kind}
use Rattle.ev_base.specs.ev_types.specs.declared.upcall.Mask.{Mask}
use Rattle.reactor_model.specs.reactor_journal.specs.declared.entry.Entry.{Entry}
use Rattle.reactor_model.specs.reactor_journal.specs.declared.entry.Entry.TheVariants.{Opened}
use Rattle.reactor_model.specs.reactor_journal.specs.declared.entry.Entry.TheVariants.{Polled, Due}
use Rattle.reactor_model.specs.reactor_journal.specs.declared.entry.Entry.TheVariants.{Removed}
use Rattle.reactor_model.specs.reactor_journal.specs.declared.entry.Entry.TheVariants.{Closed}
use Rattle.reactor_model.specs.reactor_journal.specs.declared.entry.Entry.TheVariants.{Posted}
use Rattle.reactor_model.specs.reactor_journal.specs.declared.entry.Entry.TheVariants.{Stale}
use Rattle.reactor_model.specs.reactor_journal.specs.Past.{past_of}
use Rattle.reactor_model.specs.reactor_journal.proofs.Turning.{past_of-more}
use Rattle.reactor_core.specs.reactor_summary.specs.Summary.{Summary, summary, step, is_alive}
use Rattle.reactor_core.specs.reactor_summary.specs.declared.parts.LiveHandle.{LiveHandle}
use Rattle.ev_base.specs.declared.net.Report.{Report}
use Rattle.reactor_core.specs.Polling.{due_of, ready_of}
use Rattle.reactor_core.specs.Postings.{posting}
use Rattle.reactor_core.specs.Settling.{IsClosing}
use Rattle.reactor_core.specs.Registering.{registered}
use Rattle.reactor_core.specs.Removing.{AreRemovals}

abbrev pub sum : {N : Type 0} → List (Entry N) → Summary
sum h = summary (past_of h)

pub sum_more : {N : Type 0} → (h : List (Entry N)) (e : Entry N)
    → sum (h ++ e ∷ []) ≡ step (sum h) e
sum_more h e = ap summary (past_of-more h e)

-- what the entries leave of a history's sum
pub record Keeps {N : Type 0} (h es : List (Entry N)) : Type 0 where
  pub opens : (sum (h ++ es)).opens ≡ (sum h).opens
  pub ended : (sum h).ended ≡ true → (sum (h ++ es)).ended ≡ true

pub keeps_nil : {N : Type 0} → (h : List (Entry N)) → Keeps h []
keeps_nil h = record {
  opens = ap (λ k. (sum k).opens) (append-nil h);
  ended = λ q. ap (λ k. (sum k).ended) (append-nil h) ∙ q;
}

pub keeps_one : {N : Type 0} → (h : List (Entry N)) (e : Entry N)
    → (step (sum h) e).opens ≡ (sum h).opens
    → ((sum h).ended ≡ true → (step (sum h) e).ended ≡ true) → Keeps h (e ∷ [])
keeps_one h e opens ended = record {
  opens = ap (λ (s : Summary). s.opens) (sum_more h e) ∙ opens;
  ended = λ q. ap (λ (s : Summary). s.ended) (sum_more h e) ∙ ended q;
}

pub keeps_both : {N : Type 0} → (h es fs : List (Entry N)) → Keeps h es → Keeps (h ++ es) fs
    → Keeps h (es ++ fs)
keeps_both h es fs k l = record {
  opens = ap (λ k. (sum k).opens) (sym (append_assoc h es fs)) ∙ (l.opens ∙ k.opens);
  ended = λ q. ap (λ k. (sum k).ended) (sym (append_assoc h es fs)) ∙ l.ended (k.ended q);
}

pub keeps_removed : {N : Type 0} → (h : List (Entry N)) (handle : Handle)
    → Keeps h (Removed handle ∷ [])
keeps_removed h handle = keeps_one h (Removed handle) refl (λ q. q)

pub keeps_closing : {N : Type 0} → (h : List (Entry N)) (b : Bool) (handle : Handle)
    (es : List (Entry N)) → IsClosing b handle es → Keeps h es
keeps_closing h true handle es c =
    subst (Keeps h) (sym c.1) (keeps_one h (Closed handle c.0) refl (λ q. q))
keeps_closing h false handle es c = subst (Keeps h) (sym c) (keeps_nil h)

pub keeps_removals : {N : Type 0} → (h : List (Entry N)) (busy : ℕ → Bool) (hs : List LiveHandle)
    (es : List (Entry N)) → AreRemovals busy hs es → Keeps h es
keeps_removals h busy [] es r = subst (Keeps h) (sym r) (keeps_nil h)
keeps_removals h busy (a ∷ hs) es r =
    subst (Keeps h) (sym r.4)
    (keeps_both h (Removed a.handle ∷ []) (r.0 ++ r.1) (keeps_removed h a.handle)
    (keeps_both (h ++ Removed a.handle ∷ []) r.0 r.1
    (keeps_closing (h ++ Removed a.handle ∷ []) (not (busy a.handle.0)) a.handle r.0 r.2)
    (keeps_removals ((h ++ Removed a.handle ∷ []) ++ r.0) busy hs r.1 r.3)))

pub keeps_dues : {N : Type 0} → (h : List (Entry N)) (timers : List ℕ) → Keeps h (map due_of timers)
keeps_dues h [] = keeps_nil h
keeps_dues h (timer ∷ timers) = keeps_both h (Due timer ∷ []) (map due_of timers)
    (keeps_one h (Due timer) refl (λ q. q)) (keeps_dues (h ++ Due timer ∷ []) timers)

pub keeps_readies : {N : Type 0} → (h : List (Entry N)) (reports : List Report)
    → Keeps h (map ready_of reports)
keeps_readies h [] = keeps_nil h
keeps_readies h (r ∷ reports) = keeps_both h (ready_of r ∷ []) (map ready_of reports)
    (keeps_one h (ready_of r) refl (λ q. q)) (keeps_readies (h ++ ready_of r ∷ []) reports)

pub keeps_polled : {N : Type 0} → (h : List (Entry N)) (now : ℕ) (timers : List ℕ)
    (reports : List Report) → Keeps h (Polled now ∷ (map due_of timers ++ map ready_of reports))
keeps_polled {N = N} h now timers reports =
    let g : List (Entry N) = h ++ Polled now ∷ [] in
    keeps_both h (Polled now ∷ []) (map due_of timers ++ map ready_of reports)
    (keeps_one h (Polled now) refl (λ q. q))
    (keeps_both g (map due_of timers) (map ready_of reports) (keeps_dues g timers)
    (keeps_readies (g ++ map due_of timers) reports))

pub keeps_registered : {N : Type 0}
    → (h : List (Entry N)) (s : Summary) (handle : Handle) (mask : Mask) (timer : Option (ℕ × ℕ))
    → Keeps h (registered s handle mask timer)
keeps_registered h s handle mask None = keeps_one h (Opened handle mask) refl (λ q. q)
keeps_registered h s handle mask (Some timer) =
    keeps_both h (Opened handle mask ∷ []) _ (keeps_one h (Opened handle mask) refl (λ q. q))
    (keeps_one (h ++ Opened handle mask ∷ []) _ refl (λ q. q))

-- a notification
pub keeps_posting : {N : Type 0} → (h : List (Entry N)) (handle : Handle) (kind : Kind)
    (from seq : ℕ) → Keeps h (posting (sum h) handle kind from seq ∷ [])
keeps_posting {N = N} h handle kind from seq =
    keeps_one h _ (opens (is_alive (sum h) handle.0)) (ended (is_alive (sum h) handle.0))
  where
    opens : (b : Bool) → (step {N = N} (sum h)
        (if b then Posted handle kind from seq else Stale handle from seq)).opens ≡ (sum h).opens
    opens true = refl
    opens false = refl

    ended : (b : Bool) → (sum h).ended ≡ true
        → (step {N = N} (sum h) (if b then Posted handle kind from seq else Stale handle from
        seq)).ended ≡ true
    ended true q = q
    ended false q = q
