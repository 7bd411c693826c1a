-- What contracts see of a reactor, and of an upcall on its way.
use Rattle.std.specs.Prelude.{ℕ}
use Rattle.reactor_summary.specs.ev_types.specs.declared.upcall.Answer.{Answer}
use Rattle.reactor_summary.specs.ev_types.specs.declared.upcall.Handle.{Handle}
use Rattle.reactor_summary.specs.ev_types.specs.declared.upcall.Upcall.{Upcall}
use Rattle.reactor_core.specs.declared.reactor.Core.{Core}
use Rattle.reactor_core.specs.declared.marks.WaitMarks.{WaitMarks}
use Rattle.reactor_core.specs.declared.job.Job.{Job}
use Rattle.reactor_core.specs.declared.job.Done.{Done}

-- how many entries it holds at least when it hands a volume over
abbrev pub volume_of : {H M Q W V N E : Type 0} → Core H M Q W V N E → ℕ
volume_of core = core.volume

-- its net, its watch and its volumes
abbrev pub net_of : {H M Q W V N E : Type 0} → Core H M Q W V N E → M
net_of core = core.net

abbrev pub watch_of : {H M Q W V N E : Type 0} → Core H M Q W V N E → W
watch_of core = core.watch

abbrev pub volumes_of : {H M Q W V N E : Type 0} → Core H M Q W V N E → V
volumes_of core = core.volumes

-- the marks of its waits, and of these the number of the last that was answered Over
abbrev pub marks_of : {H M Q W V N E : Type 0} → Core H M Q W V N E → WaitMarks
marks_of core = core.marks

abbrev pub over_of : {H M Q W V N E : Type 0} → Core H M Q W V N E → ℕ
over_of core = core.marks.over

-- the event of an upcall that is to be made, with its handle, the upcall and the moment at which it
-- was started
abbrev pub job_event : {H N E : Type 0} → Job H N E → ℕ
job_event job = job.event

abbrev pub job_handle : {H N E : Type 0} → Job H N E → Handle
job_handle job = job.handle

abbrev pub job_upcall : {H N E : Type 0} → Job H N E → Upcall
job_upcall job = job.upcall

abbrev pub job_moment : {H N E : Type 0} → Job H N E → ℕ
job_moment job = job.now

-- the event of one that was made, with its handle, what the handler answered and what it noted
abbrev pub done_event : {H N E : Type 0} → Done H N E → ℕ
done_event done = done.event

abbrev pub done_handle : {H N E : Type 0} → Done H N E → Handle
done_handle done = done.handle

abbrev pub done_answer : {H N E : Type 0} → Done H N E → Answer
done_answer done = done.turn.answer

abbrev pub done_note : {H N E : Type 0} → Done H N E → N
done_note done = done.turn.note
