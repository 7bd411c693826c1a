use Rattle.std.proofs.Common.{sym, ap, ◌∙◌, refl}
use Rattle.reactor_core.specs.declared.marks.WaitMarks.{WaitMarks}
use Rattle.reactor_desk.proofs.Dispatched.{handed_over, lead_gives, leads_nowhere, leads_since}
use Rattle.reactor_desk.proofs.Dispatched.{tells_of, desk_same}
use Rattle.reactor_desk.proofs.Marks.{core_hands_same, core_hands_none, core_then, core_keeps}
use Rattle.reactor_desk.proofs.Marks.{desk_keeps, core_same}
use Rattle.reactor_desk.proofs.desk.Desk.lead.Goals as goal

pub hand_over-requires : goal.hand_over-requires
hand_over-requires g c = let o = c.requires.stands in
    record { stands = (o.0.run, o.1, o.2, o.3.core) }

pub go_on-requires-clause-stands : goal.go_on-requires-clause-stands
go_on-requires-clause-stands g c =
    let o = c.requires.stands in
    let over = handed_over _ o.0 o.1 o.2 _ c.args.self.now _ o.3
    (c.in-Ok.ensures.ok o.0.run o.1 o.2 o.3.core) in (
      o.0,
      over.first,
      o.2,
      over.stands,
      (sym (c.is_ended.ensures o.0.run o.1 o.2 o.3.core) ∙ c.if-is_ended.false, o.4),
    )

pub go_on-requires-clause-ring : goal.go_on-requires-clause-ring
go_on-requires-clause-ring g c = c.requires.ring

pub returns-clause-gives : goal.returns-clause-gives
returns-clause-gives g c q F h o fits =
    let running = sym (c.is_ended.ensures q.run F h o.core) ∙ c.if-is_ended.false in
    let hands = c.in-Ok.ensures.ok q.run F h o.core in
    let over = handed_over _ q F h _ c.args.self.now _ o hands in
    lead_gives _ q F h c.args.most_ms c.args.self.now _ c.go_on.result
    (record { running = running; whole = sym c.is_broken.ensures.told ∙ c.if-is_broken.false })
    (leads_since _ q F h c.args.most_ms c.args.self.now _ _ _ over.first hands.others.net
    (c.go_on.ensures.gives q over.first h over.stands running fits))

pub returns-clause-tells : goal.returns-clause-tells
returns-clause-tells g c =
    let o = c.requires.stands in
    let hands = c.in-Ok.ensures.ok o.0.run o.1 o.2 o.3.core in
    tells_of _ c.go_on.result c.args.self.now
    (record { core = c.hand_over.new.self; drainer = c.args.self.now.drainer }) c.go_on.new.self
    (ap (λ n. (g.M.Net.facts n).failed_waits) hands.others.net)
    hands.faults (ap (λ (k : WaitMarks). k.over) hands.others.marks) c.go_on.ensures.tells

pub returns-clause-marks : goal.returns-clause-marks
returns-clause-marks g c =
    let o = c.requires.stands in
    let hands = c.in-Ok.ensures.ok o.0.run o.1 o.2 o.3.core in
    desk_keeps _ _ _ (core_then _ _ _ _
    (core_hands_same _ c.args.self.now.core c.hand_over.new.self hands.others hands.faults)
    (core_keeps _ _ _ c.go_on.ensures.marks))

pub returns-in-Err-Failed-clause-marks : goal.returns-in-Err-Failed-clause-marks
returns-in-Err-Failed-clause-marks g c =
    desk_keeps _ _ _ (core_hands_none _ c.in-Err-Failed.field-0 _ _
    c.in-Err-Failed.ensures.same.others c.in-Err-Failed.ensures.cause)

pub returns-in-Err-NoMemory-clause-gives : goal.returns-in-Err-NoMemory-clause-gives
returns-in-Err-NoMemory-clause-gives g c q F h o fits =
    let on = leads_nowhere _ q F h c.args.most_ms c.args.self.now _
    c.in-Err-NoMemory.ensures.same.others.volume o c.in-Err-NoMemory.ensures.same.others.net
    (c.in-Err-NoMemory.ensures.err q.run F h o.core) in (
      on.0,
      (
        record {
          running = sym (c.is_ended.ensures q.run F h o.core) ∙ c.if-is_ended.false;
          whole = sym c.is_broken.ensures.told ∙ c.if-is_broken.false;
        },
        on.1,
      ),
    )

pub returns-in-Err-NoMemory-clause-marks : goal.returns-in-Err-NoMemory-clause-marks
returns-in-Err-NoMemory-clause-marks g c =
    desk_keeps _ _ _ (core_hands_none _ c.in-Err-NoMemory.field-0 _ _
    c.in-Err-NoMemory.ensures.same.others c.in-Err-NoMemory.ensures.cause)

pub returns-then-is_ended-clause-gives : goal.returns-then-is_ended-clause-gives
returns-then-is_ended-clause-gives g c q F h o fits =
    (h, (sym (c.is_ended.ensures q.run F h o.core) ∙ c.if-is_ended.true, refl, refl))

pub returns-then-is_ended-clause-tells : goal.returns-then-is_ended-clause-tells
returns-then-is_ended-clause-tells g c = tt

pub returns-then-is_ended-clause-marks : goal.returns-then-is_ended-clause-marks
returns-then-is_ended-clause-marks g c = desk_keeps _ _ _ (core_same _ _)

pub returns-then-is_broken-clause-gives : goal.returns-then-is_broken-clause-gives
returns-then-is_broken-clause-gives g c q F h o fits = (
  h,
  (
    sym (c.is_ended.ensures q.run F h o.core) ∙ c.if-is_ended.false,
    sym c.is_broken.ensures.told ∙ c.if-is_broken.true,
    refl,
    refl,
  ),
)

pub returns-then-is_broken-clause-tells : goal.returns-then-is_broken-clause-tells
returns-then-is_broken-clause-tells g c =
    λ q F h o before named. c.is_broken.ensures.rose q.run F h o.core before c.if-is_broken.true
    named

pub returns-then-is_broken-clause-marks : goal.returns-then-is_broken-clause-marks
returns-then-is_broken-clause-marks g c = desk_keeps _ _ _ (core_same _ _)

pub returns-in-Err-Failed-clause-gives : goal.returns-in-Err-Failed-clause-gives
returns-in-Err-Failed-clause-gives g c q F h o fits = (
  h,
  (
    record {
      running = sym (c.is_ended.ensures q.run F h o.core) ∙ c.if-is_ended.false;
      whole = sym c.is_broken.ensures.told ∙ c.if-is_broken.false;
    },
    desk_same _ q F h c.args.self.now _ c.in-Err-Failed.ensures.same.others.volume o
        (c.in-Err-Failed.ensures.err q.run F h o.core),
    refl,
  ),
)

pub returns-in-Err-NoMemory-clause-tells : goal.returns-in-Err-NoMemory-clause-tells
returns-in-Err-NoMemory-clause-tells g c = tt

pub returns-clause-volumes : goal.returns-clause-volumes
returns-clause-volumes g c never =
    let o = c.requires.stands in
    let hands = c.in-Ok.ensures.ok o.0.run o.1 o.2 o.3.core in
    ap (λ v. (g.V.Volumes.facts v).faults) c.go_on.ensures.volumes ∙ hands.faults
