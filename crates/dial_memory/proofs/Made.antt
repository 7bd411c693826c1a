-- What is as it was made.
use Rattle.std.proofs.Common.{ℕ, suc, ◌≡◌, ◌==◌, ◌&&◌, true, false, List, [], ◌∷◌, length, Option}
use Rattle.std.proofs.Common.{Some, None, refl, ap, arith}
use Rattle.std.specs.Prelude.{is_none}
use Rattle.std.proofs.lemmas.Bool.{and_parts, eqb-true}
use Rattle.ev_base.specs.Net.{IsNew}
use Rattle.ev_base.specs.End.{IsFresh}
use Rattle.ev_base.specs.Dialer.{GivesEnd}
use Rattle.ev_base.specs.KeepsStory.{KeepsStory}
use Rattle.ev_base.specs.Terms.{Terms}
use Rattle.dial_memory.specs.declared.mem_dial_end.MemDialEnd.{MemDialEnd}
use Rattle.dial_memory.specs.declared.mem_dial_net.MemDialNet.{MemDialNet}
use Rattle.dial_memory.specs.DialEnds.{mem_dial_end_facts, is_new_end, last_of}
use Rattle.dial_memory.specs.DialNets.{mem_dial_net_facts, is_new_net}

empty : {A : Type 0} (xs : List A) → (length xs == 0) ≡ true → xs ≡ []
empty [] e = refl
empty (x ∷ xs) e = absurd (more (length xs) (eqb-true (length (x ∷ xs)) 0 e))
  where
    more : (n : ℕ) → suc n ≡ 0 → ⊥
    more n q = omega (arith, q)

none : {A : Type 0} (o : Option A) → is_none o ≡ true → o ≡ None
none None e = refl
none (Some x) e = absurd (not e)
  where
    not : false ≡ true → ⊥
    not q = cc

pub net_is_new : (net : MemDialNet) → is_new_net net ≡ true → IsNew (mem_dial_net_facts net)
net_is_new net e =
    let a = and_parts (net.now == 0) (length net.calls == 0
    && (length net.watched.items == 0 && (length net.retired.items == 0
    && length net.turned_away.items == 0))) e in
    let b = and_parts (length net.calls == 0)
    (length net.watched.items == 0 && (length net.retired.items == 0
    && length net.turned_away.items == 0)) a.1 in
    let d = and_parts (length net.watched.items == 0)
    (length net.retired.items == 0 && length net.turned_away.items == 0) b.1 in
    let f = and_parts (length net.retired.items == 0) (length net.turned_away.items == 0) d.1 in
    let watched = empty net.watched.items d.0 in
    record {
      failed_waits = refl;
      failed_attaches = refl;
      attached = rw watched refl;
      now = eqb-true net.now 0 a.0;
      calls = empty net.calls b.0;
      masks = watched;
      retired = empty net.retired.items f.0;
      turned_away = empty net.turned_away.items f.1;
    }

pub end_is_fresh : (end : MemDialEnd) → is_new_end end ≡ true → IsFresh (mem_dial_end_facts end)
end_is_fresh end e =
    let a = and_parts (end.reads == 0)
    (end.writes == 0 && (is_none end.last_write
    && (end.asked == 0 && (is_none end.last_finish
    && (end.faults == 0 && length end.held.items == 0))))) e in
    let b = and_parts (end.writes == 0)
    (is_none end.last_write && (end.asked == 0
    && (is_none end.last_finish && (end.faults == 0 && length end.held.items == 0)))) a.1 in
    let d = and_parts (is_none end.last_write)
    (end.asked == 0 && (is_none end.last_finish
    && (end.faults == 0 && length end.held.items == 0))) b.1 in
    let f = and_parts (end.asked == 0)
    (is_none end.last_finish && (end.faults == 0 && length end.held.items == 0)) d.1 in
    let g = and_parts (is_none end.last_finish) (end.faults == 0 && length end.held.items == 0) f.1
    in
    let h = and_parts (end.faults == 0) (length end.held.items == 0) g.1 in
    let reads = eqb-true end.reads 0 a.0 in
    let last = none end.last_write d.0 in
    record {
      reads = reads;
      last_read = ap last_of reads;
      writes = eqb-true end.writes 0 b.0;
      last_write = rw last refl;
      finishes = eqb-true end.asked 0 f.0;
      last_finish = none end.last_finish g.0;
      faults = eqb-true end.faults 0 h.0;
      gave = refl;
      over = refl;
      bytes = refl;
      written = empty end.held.items h.1;
      telling = tt;
      offering = tt;
    }

pub gives : (net : MemDialNet) (end : MemDialEnd) → is_new_net net ≡ true → is_new_end end ≡ true
    → GivesEnd mem_dial_net_facts mem_dial_end_facts (net, end)
gives net end n e = record {
  net = net_is_new net n;
  no_listener = refl;
  unnumbered = refl;
  fresh = end_is_fresh end e;
}

pub no_story : (t : Terms) (end : MemDialEnd) → KeepsStory t (mem_dial_end_facts end)
no_story t end = record {
  connection = λ serial story no is told. absurd (none_some is);
  listener = λ offers listens told. absurd (false_true listens);
  unnumbered = λ offers listens told. refl;
}
  where
    none_some : {A : Type 0} {a : A} → None ≡ Some a → ⊥
    none_some q = cc

    false_true : false ≡ true → ⊥
    false_true q = cc
