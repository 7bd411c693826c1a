-- Lifetimes of a desk's parts: a lifetime that is within those of its parameters is within those of
-- the desk, as often as they stand in its type.
use Rattle.std.proofs.Common.{ℕ, List, [], ◌++◌, ⊎_elim}
use mathlib.Core.Logic.{∥∥₁_elim}
use mathlib.Core.List.{Mem, Mem-prop, Memᴰ, not-mem-nil}
use mathlib.Core.List.Memᴰ as MemD

-- each of these lifetimes is one of those
abbrev pub AreOf : List ℕ → List ℕ → Type 0
AreOf κ xs = (a : ℕ) → Mem a xs → Mem a κ

pub over_both : {κ : List ℕ} (xs ys : List ℕ) → AreOf κ xs → AreOf κ ys → AreOf κ (xs ++ ys)
over_both xs ys f g a m = ∥∥₁_elim m Mem-prop
    (λ (d : Memᴰ a (xs ++ ys)). ⊎_elim (λ (l : Memᴰ a xs). f a ∣ l ∣₁)
    (λ (r : Memᴰ a ys). g a ∣ r ∣₁) (MemD.append_cases xs d))

pub over_none : {κ : List ℕ} → AreOf κ []
over_none a m = absurd (not-mem-nil m)

over_one : {κ : List ℕ} (xs : List ℕ) → AreOf κ xs → AreOf κ (xs ++ [])
over_one xs f = over_both xs [] f over_none

-- those of an entry of a journal, of a journal, and of the state of a reactor
abbrev pub entry_of : List ℕ → List ℕ
entry_of n = (n ++ []) ++ ((n ++ []) ++ ((n ++ []) ++ ((n ++ []) ++ [])))

abbrev pub journal_of : List ℕ → List ℕ
journal_of n = (n ++ []) ++ (((entry_of n ++ []) ++ []) ++ [])

abbrev pub state_of : List ℕ → List ℕ
state_of q = (q ++ []) ++ (((q ++ []) ++ (q ++ [])) ++ [])

-- those of an option or a seat, of a cell, of the seats of a repository, and of one whose handlers
-- have cells
abbrev pub option_of : List ℕ → List ℕ
option_of h = (h ++ []) ++ ((h ++ []) ++ [])

abbrev pub cell_of : List ℕ → List ℕ
cell_of h = (h ++ []) ++ (((option_of h ++ []) ++ []) ++ [])

abbrev pub seats_of : List ℕ → List ℕ
seats_of h = ((option_of h ++ []) ++ (option_of h ++ [])) ++ []

abbrev pub repo_of : List ℕ → List ℕ
repo_of h = (h ++ []) ++ ((seats_of h ++ ((((seats_of h ++ (seats_of h ++ [])) ++ []) ++ []) ++ []))
    ++ [])

abbrev pub placed_of : List ℕ → List ℕ
placed_of h = (h ++ []) ++ (repo_of (cell_of h) ++ (((cell_of h ++ []) ++ []) ++ []))

-- those of the parameters, and of a desk
abbrev pub parameters : (h m q w v n e : List ℕ) → List ℕ
parameters h m q w v n e = h ++ (m ++ (q ++ (w ++ (v ++ (n ++ (e ++ []))))))

abbrev pub desk_of : (h m q w v n e : List ℕ) → List ℕ
desk_of h m q w v n e = parameters h m q w v n e
    ++ ((parameters h m q w v n e ++ (journal_of n
    ++ (state_of q ++ (placed_of h ++ (m ++ (w ++ (v ++ []))))))) ++ [])

pub over_entries : (κ n : List ℕ) → AreOf κ n → AreOf κ (entry_of n)
over_entries κ n f =
    let g = over_one n f in
    over_both (n ++ []) _ g (over_both (n ++ []) _ g
    (over_both (n ++ []) _ g (over_one (n ++ []) g)))

over_journal : (κ n : List ℕ) → AreOf κ n → AreOf κ (journal_of n)
over_journal κ n f = over_both (n ++ []) _ (over_one n f)
    (over_one ((entry_of n ++ []) ++ [])
    (over_one (entry_of n ++ []) (over_one (entry_of n) (over_entries κ n f))))

over_state : (κ q : List ℕ) → AreOf κ q → AreOf κ (state_of q)
over_state κ q f = over_both (q ++ []) _ (over_one q f)
    (over_one ((q ++ []) ++ (q ++ []))
    (over_both (q ++ []) (q ++ []) (over_one q f) (over_one q f)))

over_option : (κ h : List ℕ) → AreOf κ h → AreOf κ (option_of h)
over_option κ h f = over_both (h ++ []) _ (over_one h f) (over_one (h ++ []) (over_one h f))

over_cell : (κ h : List ℕ) → AreOf κ h → AreOf κ (cell_of h)
over_cell κ h f = over_both (h ++ []) _ (over_one h f)
    (over_one ((option_of h ++ []) ++ [])
    (over_one (option_of h ++ []) (over_one (option_of h) (over_option κ h f))))

over_seats : (κ h : List ℕ) → AreOf κ h → AreOf κ (seats_of h)
over_seats κ h f =
    let g = over_one (option_of h) (over_option κ h f) in
    over_one ((option_of h ++ []) ++ (option_of h ++ []))
    (over_both (option_of h ++ []) (option_of h ++ []) g g)

over_repo : (κ h : List ℕ) → AreOf κ h → AreOf κ (repo_of h)
over_repo κ h f =
    let g = over_seats κ h f in
    let twice = seats_of h ++ (seats_of h ++ []) in
    over_both (h ++ []) _ (over_one h f)
    (over_one (seats_of h ++ (((twice ++ []) ++ []) ++ []))
    (over_both (seats_of h) _ g (over_one ((twice ++ []) ++ [])
    (over_one (twice ++ []) (over_one twice
    (over_both (seats_of h) _ g (over_one (seats_of h) g)))))))

over_placed : (κ h : List ℕ) → AreOf κ h → AreOf κ (placed_of h)
over_placed κ h f =
    let g = over_cell κ h f in
    over_both (h ++ []) _ (over_one h f)
    (over_both (repo_of (cell_of h)) _ (over_repo κ (cell_of h) g)
    (over_one ((cell_of h ++ []) ++ []) (over_one (cell_of h ++ []) (over_one (cell_of h) g))))

pub over_desk : (κ h m q w v n e : List ℕ) → AreOf κ h → AreOf κ m → AreOf κ q → AreOf κ w
    → AreOf κ v → AreOf κ n → AreOf κ e → AreOf κ (desk_of h m q w v n e)
over_desk κ h m q w v n e in_h in_m in_q in_w in_v in_n in_e =
    over_both (parameters h m q w v n e) _ all
    (over_one (parameters h m q w v n e ++ parts) (over_both (parameters h m q w v n e) parts all
    (over_both (journal_of n) _ (over_journal κ n in_n)
    (over_both (state_of q) _ (over_state κ q in_q)
    (over_both (placed_of h) _ (over_placed κ h in_h)
    (over_both m _ in_m (over_both w _ in_w (over_one v in_v))))))))
  where
    parts : List ℕ
    parts = journal_of n ++ (state_of q ++ (placed_of h ++ (m ++ (w ++ (v ++ [])))))

    all : AreOf κ (parameters h m q w v n e)
    all = over_both h _ in_h (over_both m _ in_m
        (over_both q _ in_q (over_both w _ in_w
        (over_both v _ in_v (over_both n _ in_n (over_one e in_e))))))
