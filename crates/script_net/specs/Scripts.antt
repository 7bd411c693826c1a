-- A script as the code keeps it, and what it is in the definitions of scripts.
use Rattle.std.specs.Prelude.{List, map}
use Rattle.ev_base.specs.ev_types.specs.declared.upcall.Kind.TheVariants.{Read}
use Rattle.ev_base.specs.Story as story
use Rattle.ev_base.specs.Terms as terms
use Rattle.script_net.specs.declared.script.End.{End}
use Rattle.script_net.specs.declared.script.End.TheVariants as end
use Rattle.script_net.specs.declared.script.Group.{Group}
use Rattle.script_net.specs.declared.script.Part.{Part}
use Rattle.script_net.specs.declared.script.Part.TheVariants as part
use Rattle.script_net.specs.declared.script.Offer.{Offer}
use Rattle.script_net.specs.declared.script.Offer.TheVariants as offer

abbrev pub end_view : End → terms.StepEnd
end_view end.Listener = terms.AtListener
end_view (end.Connection conn) = terms.AtConnection conn

-- each step is reported as ready to be read
abbrev pub step_at : End → terms.Step
step_at end = record { end = end_view end; kind = Read }

abbrev pub steps_at : List End → List terms.Step
steps_at ends = map step_at ends

abbrev pub group_view : Group → terms.Group
group_view group = record { moment = group.moment; steps = steps_at group.steps.items }

abbrev pub group_views : List Group → List terms.Group
group_views groups = map group_view groups

abbrev pub part_view : Part → story.Part
part_view (part.Piece bytes) = story.Piece bytes.items
part_view part.Pause = story.Pausing
part_view part.Over = story.Ending
part_view part.Failure = story.Failing

abbrev pub part_views : List Part → List story.Part
part_views parts = map part_view parts

abbrev pub offer_view : Offer → story.Offer
offer_view (offer.Connection conn) = story.Connection conn
offer_view offer.Pause = story.NoneThere
offer_view offer.Failure = story.OneFailure

abbrev pub offer_views : List Offer → List story.Offer
offer_views offers = map offer_view offers
