-- What a change of the held values changes in the values of places.
use Rattle.std.proofs.Common.{ℕ, zero, suc, ◌≡◌, ◌+◌, ◌<◌, ◌≤◌, ◌==◌, Bool, List, [], ◌∷◌, ◌++◌}
use Rattle.std.proofs.Common.{length, get_or, set, replicate, Option, Some, None, true, false, refl}
use Rattle.std.proofs.Common.{sym, ap, ◌∙◌, subst, arith, ⊎_elim, ◌⊎◌}
use Rattle.std.proofs.lemmas.Bool.{cases_eq, eq-eqb, eqb-true, ne_eqb, cond-true, cond-false}
use Rattle.std.proofs.lemmas.List.{get_or-set_same, get_or-set_other, get_or_past, ext_get_or}
use Rattle.std.proofs.lemmas.List.{length-set, length_push}
use Rattle.std.proofs.lemmas.Option.{slice_get_within, slice_get_past, same_Some, none-some}
use Rattle.std.specs.List.{slice_get}
use Rattle.std.specs.Prelude.{IsSome}
use Rattle.number_map.specs.Held.{is_own, own, values_from, IsLed}

-- ---- elements by index

module _ {X : Type 0} where
  pub get_set_same : (xs : List X) (i : ℕ) (a : X) → i < length xs
      → slice_get (set xs i a) i ≡ Some a
  get_set_same [] i a lt = absurd (omega arith)
  get_set_same (x ∷ xs) zero a lt = refl
  get_set_same (x ∷ xs) (suc i) a lt = get_set_same xs i a (omega arith)

  pub get_set_other : (xs : List X) (i j : ℕ) (a : X) → (j ≡ i → ⊥)
      → slice_get (set xs i a) j ≡ slice_get xs j
  get_set_other [] i j a n = refl
  get_set_other (x ∷ xs) zero zero a n = absurd (n refl)
  get_set_other (x ∷ xs) zero (suc j) a n = refl
  get_set_other (x ∷ xs) (suc i) zero a n = refl
  get_set_other (x ∷ xs) (suc i) (suc j) a n = get_set_other xs i j a (λ q. n (ap suc q))

  pub get_push : (xs : List X) (a : X) → slice_get (xs ++ a ∷ []) (length xs) ≡ Some a
  get_push [] a = refl
  get_push (x ∷ xs) a = get_push xs a

  pub get_push_other : (xs : List X) (j : ℕ) (a : X) → (j ≡ length xs → ⊥)
      → slice_get (xs ++ a ∷ []) j ≡ slice_get xs j
  get_push_other [] zero a n = absurd (n refl)
  get_push_other [] (suc j) a n = refl
  get_push_other (x ∷ xs) zero a n = refl
  get_push_other (x ∷ xs) (suc j) a n = get_push_other xs j a (λ q. n (ap suc q))

  pub get_longer : (xs ys : List X) (j : ℕ) (a : X) → slice_get xs j ≡ Some a
      → slice_get (xs ++ ys) j ≡ Some a
  get_longer [] ys j a is = absurd (none-some a is)
  get_longer (x ∷ xs) ys zero a is = is
  get_longer (x ∷ xs) ys (suc j) a is = get_longer xs ys j a is

module _ {V : Type 0} where
  -- ---- the value of a place

  -- the value of the place of this number, which leads there
  abbrev pub at : List (ℕ × V) → ℕ → Option ℕ → Option V
  at held n None = None
  at held n (Some lead) = own n (slice_get held lead)

  pub own_same : (n : ℕ) (h : ℕ × V) → h.0 ≡ n → own n (Some h) ≡ Some h.1
  own_same n h q = cond-true (h.0 == n) (Some h.1) None (eq-eqb h.0 n q)

  pub own_other : (n : ℕ) (h : ℕ × V) → (h.0 ≡ n → ⊥) → own n (Some h) ≡ None
  own_other n h m = cond-false (h.0 == n) (Some h.1) None (ne_eqb h.0 n m)

  value_at_from : (held : List (ℕ × V)) (a k n : ℕ) (leads : List ℕ) → n ≡ a + k
      → get_or (values_from held a leads) k None ≡ at held n (slice_get leads k)
  value_at_from held a k n [] is = refl
  value_at_from held a zero n (l ∷ leads) is = let same : a ≡ n = omega arith in
      ap (λ (m : ℕ). own m (slice_get held l)) same
  value_at_from held a (suc k) n (l ∷ leads) is = value_at_from held (a + 1) k n leads (omega arith)

  pub value_at : (held : List (ℕ × V)) (leads : List ℕ) (k : ℕ)
      → get_or (values_from held 0 leads) k None ≡ at held k (slice_get leads k)
  value_at held leads k = value_at_from held 0 k k leads (omega arith)

  pub values_length : (held : List (ℕ × V)) (a : ℕ) (leads : List ℕ)
      → length (values_from held a leads) ≡ length leads
  values_length held a [] = refl
  values_length held a (l ∷ leads) = ap suc (values_length held (a + 1) leads)

  -- what is known of an index at which the value of a place is held
  pub own_some : (n : ℕ) (o : Option (ℕ × V)) (v : V) → own n o ≡ Some v → (h : ℕ × V)
      × (o ≡ Some h) × (h.0 ≡ n)
  own_some n None v is = absurd (none-some v is)
  own_some n (Some h) v is =
      ⊎_elim
      (λ (q : h.0 ≡ n). (h, refl, q))
      (λ (m : h.0 ≡ n → ⊥). absurd (none-some v (sym (own_other n h m) ∙ is)))
      (cases_eq h.0 n)

  -- ---- what a place has

  pub within_leads : (held : List (ℕ × V)) (leads : List ℕ) (now : List (Option V)) (i : ℕ)
      → values_from held 0 leads ≡ now → i < length now → i < length leads
  within_leads held leads now i is lt =
      subst (λ (n : ℕ). i < n) (ap length (sym is) ∙ values_length held 0 leads) lt

  pub read : (held : List (ℕ × V)) (leads : List ℕ) (now : List (Option V)) (i p : ℕ)
      → values_from held 0 leads ≡ now → slice_get leads i ≡ Some p
      → own i (slice_get held p) ≡ get_or now i None
  read held leads now i p is leading =
      sym (ap (λ (vs : List (Option V)). get_or vs i None) (sym is)
      ∙ (value_at held leads i ∙ ap (at held i) leading))

  pub nothing_there : (held : List (ℕ × V)) (leads : List ℕ) (now : List (Option V)) (i : ℕ)
      → values_from held 0 leads ≡ now → length leads ≤ i → None ≡ get_or now i None
  nothing_there held leads now i is past =
      let same : length now ≡ length leads = ap length (sym is) ∙ values_length held 0 leads in
      sym (get_or_past now i None (omega arith))

  own_here : (n : ℕ) (o : Option (ℕ × V)) → is_own n o ≡ true → (h : ℕ × V) × (o ≡ Some h)
      × (h.0 ≡ n)
  own_here n None t = absurd cc
  own_here n (Some h) t = (h, refl, eqb-true h.0 n t)

  -- a value of the place is held at this index
  pub held_there : (held : List (ℕ × V)) (n p : ℕ) (b : Bool) → b ≡ is_own n (slice_get held p)
      → b ≡ true → (h : ℕ × V) × (slice_get held p ≡ Some h) × (h.0 ≡ n)
  held_there held n p b is t = own_here n (slice_get held p) (sym is ∙ t)

  own_not_here : (n : ℕ) (o : Option (ℕ × V)) → is_own n o ≡ false → own n o ≡ None
  own_not_here n None f = refl
  own_not_here n (Some h) f = cond-false (h.0 == n) (Some h.1) None f

  pub not_held : (held : List (ℕ × V)) (leads : List ℕ) (n p : ℕ) (b : Bool)
      → b ≡ is_own n (slice_get held p) → b ≡ false → slice_get leads n ≡ Some p
      → at held n (slice_get leads n) ≡ None
  not_held held leads n p b is f leading =
      ap (at held n) leading ∙ own_not_here n (slice_get held p) (sym is ∙ f)

  pub absent : (held : List (ℕ × V)) (leads : List ℕ) (now : List (Option V)) (i : ℕ)
      → values_from held 0 leads ≡ now → at held i (slice_get leads i) ≡ None
      → get_or now i None ≡ None
  absent held leads now i is none = ap (λ (vs : List (Option V)). get_or vs i None) (sym is)
      ∙ (value_at held leads i ∙ none)

  some_of : (o : Option V) → IsSome o → (v : V) × (o ≡ Some v)
  some_of None h = absurd cc
  some_of (Some v) h = (v, refl)

  -- if a place has a value, it is held at the index to which the place leads
  pub stands : (held : List (ℕ × V)) (leads : List ℕ) (now : List (Option V)) (i p : ℕ)
      → values_from held 0 leads ≡ now → IsSome (get_or now i None) → slice_get leads i ≡ Some p
      → (h : ℕ × V) × (slice_get held p ≡ Some h) × (h.0 ≡ i)
  stands held leads now i p is some leading =
      let there : (v : V) × (get_or now i None ≡ Some v) = some_of (get_or now i None) some in
      own_some i (slice_get held p) there.0 (read held leads now i p is leading ∙ there.1)

  -- ---- the value of one place is changed

  changed : (held later : List (ℕ × V)) (leads next : List ℕ) (i : ℕ) (w : Option V)
      → length next ≡ length leads → i < length leads → at later i (slice_get next i) ≡ w
      → ((j : ℕ) → (j ≡ i → ⊥) → at later j (slice_get next j) ≡ at held j (slice_get leads j))
      → values_from later 0 next ≡ set (values_from held 0 leads) i w
  changed held later leads next i w same lt here others =
      ext_get_or None (values_from later 0 next) (set (values_from held 0 leads) i w)
      (values_length later 0 next ∙ (same
      ∙ (sym (values_length held 0 leads) ∙ sym (length-set (values_from held 0 leads) i w))))
      (λ k below.
      value_at later next k
      ∙ (⊎_elim
      (λ (q : k ≡ i).
      ap (λ (n : ℕ). at later n (slice_get next n)) q
      ∙ (here ∙ (sym (get_or-set_same (values_from held 0 leads) i w None
      (subst (λ (n : ℕ). i < n) (sym (values_length held 0 leads)) lt))
      ∙ ap (λ (n : ℕ). get_or (set (values_from held 0 leads) i w) n None) (sym q))))
      (λ (m : k ≡ i → ⊥). others k m ∙ (sym (value_at held leads k)
      ∙ sym (get_or-set_other (values_from held 0 leads) i k w None m)))
      (cases_eq k i)))

  -- a value takes the place of one
  pub overwritten : (held : List (ℕ × V)) (leads : List ℕ) (i p : ℕ) (h : ℕ × V) (v : V)
      → slice_get leads i ≡ Some p → slice_get held p ≡ Some h → h.0 ≡ i
      → values_from (set held p (i, v)) 0 leads ≡ set (values_from held 0 leads) i (Some v)
  overwritten held leads i p h v leading is number =
      changed held (set held p (i, v)) leads leads i (Some v) refl
      (slice_get_within leads i p leading)
      (ap (at (set held p (i, v)) i) leading
      ∙ (ap (own i) (get_set_same held p (i, v) (slice_get_within held p h is))
      ∙ own_same i (i, v) refl))
      (λ j m. other j m (slice_get leads j))
    where
      other : (j : ℕ) → (j ≡ i → ⊥) → (o : Option ℕ) → at (set held p (i, v)) j o ≡ at held j o
      other j m None = refl
      other j m (Some q) =
          ⊎_elim
          (λ (s : q ≡ p).
          ap (λ (n : ℕ). own j (slice_get (set held p (i, v)) n)) s
          ∙ (ap (own j) (get_set_same held p (i, v) (slice_get_within held p h is))
          ∙ (own_other j (i, v) (λ t. m (sym t))
          ∙ (sym (own_other j h (λ t. m (sym t ∙ number)))
          ∙ (ap (own j) (sym is) ∙ ap (λ (n : ℕ). own j (slice_get held n)) (sym s))))))
          (λ (n : q ≡ p → ⊥). ap (own j) (get_set_other held p q (i, v) n))
          (cases_eq q p)

  pub led_overwritten : (held : List (ℕ × V)) (leads : List ℕ) (i p : ℕ) (h : ℕ × V) (v : V)
      → IsLed leads held → slice_get leads i ≡ Some p → slice_get held p ≡ Some h
      → IsLed leads (set held p (i, v))
  led_overwritten held leads i p h v l leading is =
      record { led = λ q g there. each q g there (cases_eq q p) }
    where
      each : (q : ℕ) (g : ℕ × V) → slice_get (set held p (i, v)) q ≡ Some g
          → ((q ≡ p) ⊎ (q ≡ p → ⊥)) → slice_get leads g.0 ≡ Some q
      each q g there c =
          ⊎_elim
          (λ (s : q ≡ p).
          let same : (i, v) ≡ g = same_Some (i, v) g
          (sym (get_set_same held p (i, v) (slice_get_within held p h is))
          ∙ (ap (slice_get (set held p (i, v))) (sym s) ∙ there)) in
          ap (λ (t : ℕ × V). slice_get leads t.0) (sym same)
          ∙ (leading ∙ ap (λ (n : ℕ). Some n) (sym s)))
          (λ (n : q ≡ p → ⊥). l.led q g (sym (get_set_other held p q (i, v) n) ∙ there))
          c

  -- a value is held when the place had none
  pub pushed : (held : List (ℕ × V)) (leads : List ℕ) (i : ℕ) (v : V) → i < length leads
      → values_from (held ++ (i, v) ∷ []) 0 (set leads i (length held))
      ≡ set (values_from held 0 leads) i (Some v)
  pushed held leads i v lt =
      changed held (held ++ (i, v) ∷ []) leads (set leads i (length held)) i (Some v)
      (length-set leads i (length held)) lt
      (ap (at (held ++ (i, v) ∷ []) i) (get_set_same leads i (length held) lt)
      ∙ (ap (own i) (get_push held (i, v)) ∙ own_same i (i, v) refl))
      (λ j m. ap (at (held ++ (i, v) ∷ []) j) (get_set_other leads i j (length held) m)
      ∙ other j m (slice_get leads j))
    where
      other : (j : ℕ) → (j ≡ i → ⊥) → (o : Option ℕ) → at (held ++ (i, v) ∷ []) j o ≡ at held j o
      other j m None = refl
      other j m (Some q) =
          ⊎_elim
          (λ (s : q ≡ length held).
          ap (λ (n : ℕ). own j (slice_get (held ++ (i, v) ∷ []) n)) s
          ∙ (ap (own j) (get_push held (i, v))
          ∙ (own_other j (i, v) (λ t. m (sym t))
          ∙ ap (own j) (sym (slice_get_past held q (omega arith))))))
          (λ (n : q ≡ length held → ⊥). ap (own j) (get_push_other held q (i, v) n))
          (cases_eq q (length held))

  pub led_pushed : (held : List (ℕ × V)) (leads : List ℕ) (i : ℕ) (v : V) → IsLed leads held
      → i < length leads → at held i (slice_get leads i) ≡ None
      → IsLed (set leads i (length held)) (held ++ (i, v) ∷ [])
  led_pushed held leads i v l lt none =
      record { led = λ q g there. each q g there (cases_eq q (length held)) }
    where
      fresh : (q : ℕ) (g : ℕ × V) → slice_get held q ≡ Some g → g.0 ≡ i → ⊥
      fresh q g there number =
          none-some g.1
          (sym none
          ∙ (ap (at held i) (ap (slice_get leads) (sym number) ∙ l.led q g there)
          ∙ (ap (own i) there ∙ own_same i g number)))

      each : (q : ℕ) (g : ℕ × V) → slice_get (held ++ (i, v) ∷ []) q ≡ Some g
          → ((q ≡ length held) ⊎ (q ≡ length held → ⊥))
          → slice_get (set leads i (length held)) g.0 ≡ Some q
      each q g there c =
          ⊎_elim
          (λ (s : q ≡ length held).
          let same : (i, v) ≡ g = same_Some (i, v) g
          (sym (get_push held (i, v)) ∙ (ap (slice_get (held ++ (i, v) ∷ [])) (sym s) ∙ there))
          in
          ap (λ (t : ℕ × V). slice_get (set leads i (length held)) t.0) (sym same)
          ∙ (get_set_same leads i (length held) lt ∙ ap (λ (n : ℕ). Some n) (sym s)))
          (λ (n : q ≡ length held → ⊥).
          let old : slice_get held q ≡ Some g = sym (get_push_other held q (i, v) n) ∙ there in
          get_set_other leads i g.0 (length held) (λ number. fresh q g old number) ∙ l.led q g old)
          c

  -- the value that is held last is taken away
  pub cut : (rest : List (ℕ × V)) (last : ℕ × V) (leads : List ℕ) (i : ℕ) → i < length leads
      → last.0 ≡ i → slice_get leads i ≡ Some (length rest)
      → values_from rest 0 leads ≡ set (values_from (rest ++ last ∷ []) 0 leads) i None
  cut rest last leads i lt number leading =
      changed (rest ++ last ∷ []) rest leads leads i None refl lt
      (ap (at rest i) leading ∙ ap (own i) (slice_get_past rest (length rest) (omega arith)))
      (λ j m. other j m (slice_get leads j))
    where
      other : (j : ℕ) → (j ≡ i → ⊥) → (o : Option ℕ) → at rest j o ≡ at (rest ++ last ∷ []) j o
      other j m None = refl
      other j m (Some q) =
          ⊎_elim
          (λ (s : q ≡ length rest).
          ap (own j) (slice_get_past rest q (omega arith))
          ∙ (sym (own_other j last (λ t. m (sym t ∙ number)))
          ∙ (ap (own j) (sym (get_push rest last))
          ∙ ap (λ (n : ℕ). own j (slice_get (rest ++ last ∷ []) n)) (sym s))))
          (λ (n : q ≡ length rest → ⊥). ap (own j) (sym (get_push_other rest q last n)))
          (cases_eq q (length rest))

  pub led_cut : (rest : List (ℕ × V)) (last : ℕ × V) (leads : List ℕ)
      → IsLed leads (rest ++ last ∷ []) → IsLed leads rest
  led_cut rest last leads l = record {
    led = λ q g there. l.led q g (get_longer rest (last ∷ []) q g there);
  }

  -- the value that is held last is held in the stead of another
  pub moved : (rest : List (ℕ × V)) (last : ℕ × V) (leads : List ℕ) (i p : ℕ) (h : ℕ × V)
      → IsLed leads (rest ++ last ∷ []) → slice_get leads i ≡ Some p → slice_get rest p ≡ Some h
      → h.0 ≡ i
      → values_from (set rest p last) 0 (set leads last.0 p)
      ≡ set (values_from (rest ++ last ∷ []) 0 leads) i None
  moved rest last leads i p h l leading is number =
      changed (rest ++ last ∷ []) (set rest p last) leads (set leads last.0 p) i None
      (length-set leads last.0 p) (slice_get_within leads i p leading)
      (ap (at (set rest p last) i) (get_set_other leads last.0 i p (λ s. apart (sym s)) ∙ leading)
      ∙ (ap (own i) (get_set_same rest p last within) ∙ own_other i last apart))
      (λ j m.
      ⊎_elim
      (λ (s : j ≡ last.0).
      ap (at (set rest p last) j) (ap (slice_get (set leads last.0 p)) s
      ∙ get_set_same leads last.0 p (slice_get_within leads last.0 (length rest) leads_last))
      ∙ (ap (own j) (get_set_same rest p last within)
      ∙ (ap (own j) (sym (get_push rest last))
      ∙ ap (at (rest ++ last ∷ []) j) (sym leads_last ∙ ap (slice_get leads) (sym s)))))
      (λ (n : j ≡ last.0 → ⊥). ap (at (set rest p last) j) (get_set_other leads last.0 j p n)
      ∙ other j m n (slice_get leads j))
      (cases_eq j last.0))
    where
      within : p < length rest
      within = slice_get_within rest p h is

      leads_last : slice_get leads last.0 ≡ Some (length rest)
      leads_last = l.led (length rest) last (get_push rest last)

      apart : last.0 ≡ i → ⊥
      apart s =
          let same : length rest ≡ p = same_Some (length rest) p
          (sym leads_last ∙ (ap (slice_get leads) s ∙ leading)) in
          let below : p < length rest = within in
          absurd (omega arith)

      other : (j : ℕ) → (j ≡ i → ⊥) → (j ≡ last.0 → ⊥) → (o : Option ℕ)
          → at (set rest p last) j o ≡ at (rest ++ last ∷ []) j o
      other j m n None = refl
      other j m n (Some q) =
          ⊎_elim
          (λ (s : q ≡ p).
          ap (λ (k : ℕ). own j (slice_get (set rest p last) k)) s
          ∙ (ap (own j) (get_set_same rest p last within)
          ∙ (own_other j last (λ t. n (sym t))
          ∙ (sym (own_other j h (λ t. m (sym t ∙ number)))
          ∙ (ap (own j) (sym (get_longer rest (last ∷ []) p h is))
          ∙ ap (λ (k : ℕ). own j (slice_get (rest ++ last ∷ []) k)) (sym s))))))
          (λ (d : q ≡ p → ⊥). ap (own j) (get_set_other rest p q last d)
          ∙ behind j n q (cases_eq q (length rest)))
          (cases_eq q p)
        where
          behind : (j : ℕ) → (j ≡ last.0 → ⊥) → (q : ℕ)
              → ((q ≡ length rest) ⊎ (q ≡ length rest → ⊥))
              → own j (slice_get rest q) ≡ own j (slice_get (rest ++ last ∷ []) q)
          behind j n q c =
              ⊎_elim
              (λ (s : q ≡ length rest).
              ap (own j) (slice_get_past rest q (omega arith))
              ∙ (sym (own_other j last (λ t. n (sym t)))
              ∙ (ap (own j) (sym (get_push rest last))
              ∙ ap (λ (k : ℕ). own j (slice_get (rest ++ last ∷ []) k)) (sym s))))
              (λ (d : q ≡ length rest → ⊥). ap (own j) (sym (get_push_other rest q last d)))
              c

  pub led_moved : (rest : List (ℕ × V)) (last : ℕ × V) (leads : List ℕ) (p : ℕ)
      → IsLed leads (rest ++ last ∷ []) → p < length rest
      → IsLed (set leads last.0 p) (set rest p last)
  led_moved rest last leads p l within = record { led = λ q g there. each q g there (cases_eq q p) }
    where
      leads_last : slice_get leads last.0 ≡ Some (length rest)
      leads_last = l.led (length rest) last (get_push rest last)

      each : (q : ℕ) (g : ℕ × V) → slice_get (set rest p last) q ≡ Some g → ((q ≡ p) ⊎ (q ≡ p → ⊥))
          → slice_get (set leads last.0 p) g.0 ≡ Some q
      each q g there c =
          ⊎_elim
          (λ (s : q ≡ p).
          let same : last ≡ g = same_Some last g
          (sym (get_set_same rest p last within)
          ∙ (ap (slice_get (set rest p last)) (sym s) ∙ there)) in
          ap (λ (t : ℕ × V). slice_get (set leads last.0 p) t.0) (sym same)
          ∙ (get_set_same leads last.0 p (slice_get_within leads last.0 (length rest)
          leads_last) ∙ ap (λ (k : ℕ). Some k) (sym s)))
          (λ (d : q ≡ p → ⊥).
          let old : slice_get rest q ≡ Some g = sym (get_set_other rest p q last d) ∙ there in
          let lead : slice_get leads g.0 ≡ Some q =
          l.led q g (get_longer rest (last ∷ []) q g old) in
          get_set_other leads last.0 g.0 p
          (λ number.
          let same : q ≡ length rest = same_Some q (length rest)
          (sym lead ∙ (ap (slice_get leads) number ∙ leads_last)) in
          let below : q < length rest = slice_get_within rest q g old in
          absurd (omega arith))
          ∙ lead)
          c

  -- the value of a place is taken away: it is the one held last, or that one is held in its stead
  pub taken_last : (held rest : List (ℕ × V)) (last : ℕ × V) (leads : List ℕ)
      (now : List (Option V)) (i p : ℕ) → values_from held 0 leads ≡ now
      → IsSome (get_or now i None) → held ≡ rest ++ last ∷ [] → slice_get leads i ≡ Some p
      → length rest ≤ p
      → values_from rest 0 leads ≡ set now i None
  taken_last held rest last leads now i p is some parts leading past =
      let h : (h : ℕ × V) × (slice_get held p ≡ Some h) × (h.0 ≡ i) =
      stands held leads now i p is some leading in
      let there : slice_get (rest ++ last ∷ []) p ≡ Some h.0 =
      ap (λ (xs : List (ℕ × V)). slice_get xs p) (sym parts) ∙ h.1 in
      let below : p < length (rest ++ last ∷ []) =
      slice_get_within (rest ++ last ∷ []) p h.0 there in
      let count : length (rest ++ last ∷ []) ≡ length rest + 1 = length_push rest last in
      let same : p ≡ length rest = omega arith in
      let is_last : last ≡ h.0 = same_Some last h.0
      (sym (get_push rest last) ∙ (ap (slice_get (rest ++ last ∷ [])) (sym same) ∙ there)) in
      cut rest last leads i (slice_get_within leads i p leading)
      (ap (λ (t : ℕ × V). t.0) is_last ∙ h.2) (leading ∙ ap (λ (n : ℕ). Some n) same)
      ∙ ap (λ (vs : List (Option V)). set vs i None)
      (ap (λ (xs : List (ℕ × V)). values_from xs 0 leads) (sym parts) ∙ is)

  pub taken : (held rest : List (ℕ × V)) (last : ℕ × V) (leads : List ℕ) (now : List (Option V))
      (i p : ℕ) → IsLed leads held → values_from held 0 leads ≡ now → IsSome (get_or now i None)
      → held ≡ rest ++ last ∷ [] → slice_get leads i ≡ Some p
      → p < length rest → values_from (set rest p last) 0 (set leads last.0 p) ≡ set now i None
  taken held rest last leads now i p l is some parts leading within =
      let h : (h : ℕ × V) × (slice_get held p ≡ Some h) × (h.0 ≡ i) =
      stands held leads now i p is some leading in
      let there : slice_get (rest ++ last ∷ []) p ≡ Some h.0 =
      ap (λ (xs : List (ℕ × V)). slice_get xs p) (sym parts) ∙ h.1 in
      moved rest last leads i p h.0 (subst (IsLed leads) parts l) leading
      (sym (get_push_other rest p last (λ s. absurd (omega arith))) ∙ there) h.2
      ∙ ap (λ (vs : List (Option V)). set vs i None)
      (ap (λ (xs : List (ℕ × V)). values_from xs 0 leads) (sym parts) ∙ is)

  -- there is no place that has a value if none is held
  pub none_stands : (held : List (ℕ × V)) (leads : List ℕ) (now : List (Option V)) (i p : ℕ)
      → values_from held 0 leads ≡ now → IsSome (get_or now i None) → slice_get leads i ≡ Some p
      → length held ≡ 0 → ⊥
  none_stands held leads now i p is some leading empty =
      let h : (h : ℕ × V) × (slice_get held p ≡ Some h) × (h.0 ≡ i) =
      stands held leads now i p is some leading in
      let within : p < length held = slice_get_within held p h.0 h.1 in
      omega arith

  -- ---- more places

  none_beyond : (held : List (ℕ × V)) (a n : ℕ)
      → ((m : ℕ) → a ≤ m → own m (slice_get held 0) ≡ None)
      → values_from held a (replicate n 0) ≡ replicate n None
  none_beyond held a zero none = refl
  none_beyond held a (suc n) none =
      ap (λ (o : Option V). o ∷ values_from held (a + 1) (replicate n 0)) (none a (omega arith))
      ∙ ap (λ (vs : List (Option V)). None ∷ vs)
      (none_beyond held (a + 1) n (λ m le. none m (omega arith)))

  values_append : (held : List (ℕ × V)) (a b : ℕ) (xs ys : List ℕ) → b ≡ a + length xs
      → values_from held a (xs ++ ys) ≡ values_from held a xs ++ values_from held b ys
  values_append held a b [] ys is = let same : a ≡ b = omega arith in
      ap (λ (n : ℕ). values_from held n ys) same
  values_append held a b (x ∷ xs) ys is =
      ap (λ (vs : List (Option V)). own a (slice_get held x) ∷ vs)
      (values_append held (a + 1) b xs ys (omega arith))

  pub lengthened : (held : List (ℕ × V)) (leads : List ℕ) (n : ℕ) → IsLed leads held
      → values_from held 0 (leads ++ replicate n 0) ≡ values_from held 0 leads ++ replicate n None
  lengthened held leads n l =
      values_append held 0 (length leads) leads (replicate n 0) (omega arith)
      ∙ ap (λ (vs : List (Option V)). values_from held 0 leads ++ vs)
      (none_beyond held (length leads) n (λ m le. beyond m le (slice_get held 0) refl))
    where
      beyond : (m : ℕ) → length leads ≤ m → (o : Option (ℕ × V)) → slice_get held 0 ≡ o
          → own m o ≡ None
      beyond m le None is = refl
      beyond m le (Some h) is =
          own_other m h
          (λ number.
          let below : h.0 < length leads = slice_get_within leads h.0 0 (l.led 0 h is) in
          absurd (omega arith))

  pub led_lengthened : (held : List (ℕ × V)) (leads : List ℕ) (n : ℕ) → IsLed leads held
      → IsLed (leads ++ replicate n 0) held
  led_lengthened held leads n l = record {
    led = λ q g there. get_longer leads (replicate n 0) g.0 q (l.led q g there);
  }
