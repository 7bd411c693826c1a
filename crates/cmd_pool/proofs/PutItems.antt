-- That what is put of records are their items.
use Rattle.std.proofs.Common.{◌≡◌, ◌≤◌, ◌⊎◌, ℕ, List, [], ◌∷◌, ◌++◌, slice_get, Some, sym, ap, ◌∙◌}
use Rattle.std.proofs.Common.{subst, ⊎_elim, append_assoc, drop, zero, suc, ◌+◌, arith}
use Rattle.std.proofs.lemmas.List.{append-nil}
use Rattle.cdr_record.specs.declared.record.LogRecord.{LogRecord}
use Rattle.task_server.specs.Calls.{HasPut}
use Rattle.task_server.specs.Logs.{numbered, with_own}
use Rattle.task_server.specs.declared.item.Item.{Item}
use Rattle.task_server.specs.declared.rule.Log.{Log}
use Rattle.task_server.specs.declared.rule.Numbered.{Numbered}
use Rattle.cmd_pool.specs.PutItems.{AreItemsOf, IsItemOf, PutsBefore}

-- the item of a number is the first of what is left after as many
pub first_left : {X : Type 0} (xs rest : List X) (i : ℕ) (x : X) → drop i xs ≡ x ∷ rest
    → (slice_get xs i ≡ Some x) × (drop (suc i) xs ≡ rest)
first_left [] rest zero x e = cc
first_left [] rest (suc i) x e = cc
first_left (y ∷ ys) rest zero x e = (cc, cc)
first_left (y ∷ ys) rest (suc i) x e = first_left ys rest i x e

module _ (conn event : ℕ) (records : List LogRecord) where
  -- what stands below a number stands below a greater one
  items_below : (least end more : ℕ) (es : List (Numbered Item)) → end ≤ more
      → AreItemsOf conn event records least end es → AreItemsOf conn event records least more es
  items_below least end more [] le all = omega (arith, le, all)
  items_below least end more (x ∷ xs) le all =
      (all.0, all.1, items_below (x.item.index + 1) end more xs le all.2)

  items_append : (least end : ℕ) (es : List (Numbered Item)) (e : Numbered Item)
      → AreItemsOf conn event records least end es → IsItemOf conn event records e.item
      → end ≤ e.item.index → AreItemsOf conn event records least (e.item.index + 1) (es ++ e ∷ [])
  items_append least end [] e all is le = (is, omega (arith, all, le), omega arith)
  items_append least end (x ∷ xs) e all is le =
      (all.0, all.1, items_append (x.item.index + 1) end xs e all.2 is le)

  pub puts_none : (old : Log Item) → PutsBefore conn event records 0 old old
  puts_none old = (
    [],
    ap (λ (own : List (Numbered Item)). record old { own = own }) (sym (append-nil old.own)),
    omega arith,
  )

  pub puts_no_more : (end : ℕ) (old now : Log Item) → PutsBefore conn event records end old now
      → PutsBefore conn event records (end + 1) old now
  puts_no_more end old now some_put =
      (some_put.0, some_put.1, items_below 0 end (end + 1) some_put.0 (omega arith) some_put.2)

  -- one more was put
  puts_one : (old now next : Log Item) (item : Item)
      → PutsBefore conn event records item.index old now
      → IsItemOf conn event records item → HasPut now item next
      → PutsBefore conn event records (item.index + 1) old next
  puts_one old now next item some_put is put =
      let e : Numbered Item = numbered put.0 item in (
        some_put.0 ++ e ∷ [],
        put.1 ∙ ap (with_own put.0 item) some_put.1
            ∙ ap (λ (own : List (Numbered Item)). record old { own = own })
            (append_assoc old.own some_put.0 (e ∷ [])),
        items_append 0 item.index some_put.0 e some_put.2 is (omega arith),
      )

  pub puts_maybe : (old now next : Log Item) (item : Item)
      → PutsBefore conn event records item.index old now
      → IsItemOf conn event records item → HasPut now item next ⊎ (next ≡ now)
      → PutsBefore conn event records (item.index + 1) old next
  puts_maybe old now next item some_put is may =
      ⊎_elim (λ put. puts_one old now next item some_put is put)
      (λ same. subst (λ (l : Log Item). PutsBefore conn event records (item.index + 1) old l)
      (sym same) (puts_no_more item.index old now some_put)) may
