-- The limit of a wait.
use Rattle.std.specs.Prelude.{ℕ, Bool, true, false, Option, Some, None, min}

-- The limit of a wait in milliseconds: none passes if a report is owed; else it ends once the
-- listeners are to be tried again, or at the limit that the caller names, whichever is first.
abbrev pub limit_of : (owing : Bool) (until_retry most : Option ℕ) → Option ℕ
limit_of true until_retry most = Some 0
limit_of false (Some first) (Some most) = Some (min first most)
limit_of false (Some first) None = Some first
limit_of false None most = most
