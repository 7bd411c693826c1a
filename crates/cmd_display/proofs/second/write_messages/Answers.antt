use Rattle.std.proofs.Common.{rules, List, ℕ, [], ◌∷◌, ◌++◌, sym, ap, ◌∙◌, subst, append_assoc}
use Rattle.std.proofs.lemmas.List.{flat_map_more}
use Rattle.std.specs.Vec.Iter.{drain_items}
use Rattle.sink_buffer.specs.Gathers.{Gathers}
use Rattle.message_block.specs.Messages.{MessageState, bytes_of}
use Rattle.cmd_display.specs.Pipelines.{text_of}
use Rattle.cmd_display.proofs.Texts.{gathers-behind}
use Rattle.cmd_display.proofs.second.write_messages.Goals as goal

pub loop-message-preserved : goal.loop-message-preserved
loop-message-preserved g c = (
  λ o put h.
      subst (λ (text : List ℕ). Gathers g.K.Sink.facts o c.write_message.new.lines text)
      (flat_map_more bytes_of put c.loop-message.yielded c.in-Some.message)
      (c.write_message.ensures o _ (c.loop-message.invariant.0 o put h)),
  append_assoc c.loop-message.yielded (c.in-Some.message ∷ []) (drain_items c.next.new.self)
      ∙ ap (λ (l : List MessageState). c.loop-message.yielded ++ l) (sym c.in-Some.ensures.steps.0)
      ∙ c.loop-message.invariant.1,
)

pub returns-then-is_broken-clause-text : goal.returns-then-is_broken-clause-text
returns-then-is_broken-clause-text g c =
    λ o put h. gathers-behind g.K.Sink.facts o c.args.lines.now put (text_of c.args.messages)
    (search rules) h
