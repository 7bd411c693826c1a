-- What a run starts with. Contracts alone see it. No call changes it, and each part but `most` may
-- be left open: then the contracts say nothing that hangs on it.
use Rattle.std.specs.Prelude.{ℕ, Bool, List, Option, None, slice_get, option_and_then}
use Rattle.ev_types.specs.declared.upcall.Kind.{Kind}
use Rattle.ev_base.specs.Story.{Offer, Story}

-- One step of a net's script: something happens at an end, of the listener or of a connection by
-- its serial number.
pub data StepEnd : Type 0 where
  AtListener : StepEnd
  AtConnection : (serial : ℕ) → StepEnd

pub record Step : Type 0 where
  pub end : StepEnd
  pub kind : Kind

-- steps that come at one moment, in milliseconds
pub record Group : Type 0 where
  pub moment : ℕ
  pub steps : List Step

pub record Terms : Type 0 where
  -- how many handlers may be live at once
  pub most : ℕ
  -- the limit of every wait in milliseconds, or none
  pub limit : Option (Option ℕ)
  -- the listener's story, and those of the connections by serial number
  pub offers : Option (List Offer)
  pub stories : Option (List Story)
  -- the groups of the net's script
  pub groups : Option (List Group)
  -- the text of the output at the start
  pub opening : Option (List ℕ)
  -- how many bytes the input had given at the start
  pub input_gave : Option ℕ
  -- the counts of faults of input and output at the start
  pub input_faults : Option ℕ
  pub output_faults : Option ℕ
  -- whether the net is steady
  pub steady : Option Bool
  -- how many entries the journal had when the reactor began to go by turns alone
  pub by_turn : Option ℕ
  -- after how many quiet milliseconds a connection is closed, or that it never is
  pub idle : Option (Option ℕ)
  -- how many entries the volumes had taken at the start, and their count of faults then
  pub volumes_taken : Option ℕ
  pub volumes_faults : Option ℕ

-- the story of the connection of a serial number, if the terms have it
abbrev pub story_of : Terms → ℕ → Option Story
story_of t serial = option_and_then (λ stories. slice_get stories serial) t.stories

-- the terms that leave all open
abbrev pub open_terms : ℕ → Terms
open_terms most = record {
  most = most;
  limit = None;
  offers = None;
  stories = None;
  groups = None;
  opening = None;
  input_gave = None;
  input_faults = None;
  output_faults = None;
  steady = None;
  by_turn = None;
  idle = None;
  volumes_taken = None;
  volumes_faults = None;
}

-- what a call left of an object is what it keeps: under each terms that held before it
abbrev pub KeepsOn : {S : Type 0} → (Terms → S → Type 0) → S → S → Type 0
KeepsOn keeps old new = (t : Terms) → keeps t old → keeps t new

-- a call that is lent or given another object too, here an end, which keeps the terms as well
abbrev pub KeepsOnWith : {S E : Type 0} → (Terms → S → Type 0) → (Terms → E → Type 0) → E → S → S
    → Type 0
KeepsOnWith keeps also given old new = (t : Terms) → keeps t old → also t given → keeps t new
