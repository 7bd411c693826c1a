-- The style sheet and the legend (this project's own).
use Rattle.std.specs.Prelude.{ℕ, List, ◌++◌, codes, decimal}
use Rattle.journal_picture.specs.Pieces.{shape_text}

-- the colour of each class
abbrev pub style : List ℕ
style =
    codes "<style>\n"
    ++ codes ".life{fill:#e8eef5}.gone{fill:#fff}.held{fill:#d9d2e3}\n"
    ++ codes ".opened{fill:#2e7d32}.closed{fill:#37474f}.removed{fill:#c62828}\n"
    ++ codes ".ready{fill:#1565c0}.posted{fill:#ef6c00}.stale{fill:#bcaaa4}\n"
    ++ codes ".scheduled{fill:#80cbc4}.due{fill:#00695c}.cancelled{fill:#b0bec5}\n"
    ++ codes ".started{fill:#90a4ae}.keep{fill:#5b8fd6}.again{fill:#35a79c}.close{fill:#d9534f}\n"
    ++ codes
    ".masked{fill:#8e24aa}.suspended{fill:#5e35b1}.resumed{fill:#9575cd}.refused{fill:#c62828}\n"
    ++ codes ".polled{fill:#c9b458}.ended{fill:#000}.bad{fill:#e00000}\n"
    ++ codes
    "text{fill:#333}.name{text-anchor:end}.axis{fill:#888;font-size:9px}.moment{fill:#7a6a10;font-size:8px}\n"
    ++ codes "</style>\n"

-- a sample of a mark, and what it means
abbrev pub sample : List ℕ → ℕ → ℕ → List ℕ → List ℕ → List ℕ
sample class x y shape meaning =
    codes "<g class='" ++ class ++ codes "'>" ++ shape_text x y shape
    ++ (codes "</g><text dx='16' dy='4' x='" ++ decimal x) ++ (codes "' y='" ++ decimal y)
    ++ codes "'>" ++ meaning ++ codes "</text>\n"

-- the samples of what becomes of handles
abbrev pub handle_samples : List ℕ
handle_samples =
    sample (codes "opened") 20 18 (codes "m0-7l9 7-9 7z") (codes "opened")
    ++ sample (codes "removed") 130 18 (codes "m0-4l2-2 3 3 3-3 2 2-3 3 3 3-2 2-3-3-3 3-2-2 3-3z")
    (codes "removed")
    ++ sample (codes "closed") 240 18 (codes "m0-9h4v18h-4z") (codes "closed")
    ++ sample (codes "suspended") 350 18 (codes "m0-6h3v12h-3zm5 0h3v12h-3z") (codes "suspended")
    ++ sample (codes "resumed") 460 18 (codes "m0-6l8 6-8 6z") (codes "resumed")
    ++ sample (codes "masked") 570 18 (codes "m0-1h8v3h-8z") (codes "mask changed")
    ++ sample (codes "refused") 680 18 (codes "m5-6l5 11h-10z") (codes "handler refused")

-- the samples of events
abbrev pub event_samples : List ℕ
event_samples =
    sample (codes "ready") 20 40 (codes "m0 0a4 4 0 1 0 8 0a4 4 0 1 0-8 0z") (codes "report")
    ++ sample (codes "posted") 130 40 (codes "m0 0l5-5 5 5-5 5z") (codes "notification")
    ++ sample (codes "stale") 240 40 (codes "m0 0l5-5 5 5-5 5z") (codes "stale one")
    ++ sample (codes "scheduled") 350 40 (codes "m0-4h8v8h-8z") (codes "timer set")
    ++ sample (codes "due") 460 40 (codes "m0-4h8v8h-8z") (codes "timer due")
    ++ sample (codes "cancelled") 570 40 (codes "m0-4h8v8h-8z") (codes "timer cancelled")
    ++ sample (codes "started") 680 40 (codes "m0 0h12v2h-12z") (codes "event waits for its upcall")

-- the samples of upcalls, waits and the end
abbrev pub upcall_samples : List ℕ
upcall_samples =
    sample (codes "keep") 20 62 (codes "m0-6h12v12h-12z") (codes "upcall: keep")
    ++ sample (codes "again") 130 62 (codes "m0-6h12v12h-12z") (codes "upcall: again")
    ++ sample (codes "close") 240 62 (codes "m0-6h12v12h-12z") (codes "upcall: close")
    ++ sample (codes "polled") 350 62 (codes "m3-8h1v16h-1z") (codes "wait answered (ms)")
    ++ sample (codes "ended") 488 62 (codes "m3-8h3v16h-3z") (codes "stopped")
    ++ sample (codes "bad") 570 62 (codes "m3-8h3v16h-3z") (codes "first entry that may not follow")

abbrev pub legend : List ℕ
legend = handle_samples ++ event_samples ++ upcall_samples
