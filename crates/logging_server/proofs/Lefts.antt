-- What is left of a run, by the status of its ending.
use Rattle.std.proofs.Common.{◌≡◌, ℕ, ap₂}
use Rattle.logging_server.specs.declared.served.Served.{Served}

-- the status and its number are those of the ending, and all else is as it is
pub with-codes : {K S M V : Type 0} (served : Served K S M V) (code at : ℕ) → served.status ≡ code
    → served.at ≡ at → served ≡ record served { status = code; at = at }
with-codes served code at status number =
    ap₂ (λ (c n : ℕ). record served { status = c; at = n }) status number
