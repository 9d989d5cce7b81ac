-- Events that a line can give.
use Rattle.std.specs.Prelude.{◌≡◌, true, List, Option, Some, None}
use Rattle.std.specs.List.{AllByRecursion}
use Rattle.store_model.specs.store_record.Keys.{Text}
use Rattle.store_model.specs.Events as e
use Rattle.store_model.specs.Events.{Event, Line, Part, Target, is_short, line_of}
use Rattle.sound_records.specs.Sound.{IsGiven, IsId}
use Rattle.store_model.specs.declared.command.Command.{Command}

-- the name of a handle, a layer or a watch: 1 to 200 bytes
abbrev pub IsName : Text → Type 0
IsName name = is_short name ≡ true

abbrev pub AreGiven : List Command → Type 0
AreGiven commands = AllByRecursion IsGiven commands

abbrev pub IsGivenPart : Option Part → Type 0
IsGivenPart None = Unit {0}
IsGivenPart (Some part) = IsId part.id

abbrev pub IsGivenTarget : Target → Type 0
IsGivenTarget target = IsName target.handle × IsGivenPart target.part

abbrev pub IsGivenEvent : Event → Type 0
IsGivenEvent (e.retain handle op given) = IsName handle
IsGivenEvent (e.release handle) = IsName handle
IsGivenEvent (e.payload answer commands) = AreGiven commands
IsGivenEvent (e.update commands) = AreGiven commands
IsGivenEvent (e.begin layer answer commands) = IsName layer × AreGiven commands
IsGivenEvent (e.finish layer answer commands) = IsName layer × AreGiven commands
IsGivenEvent (e.revert layer) = IsName layer
IsGivenEvent (e.read target) = IsGivenTarget target
IsGivenEvent (e.watch name target) = IsName name × IsGivenTarget target
IsGivenEvent (e.unwatch name) = IsName name
IsGivenEvent e.collect = Unit {0}

abbrev pub IsGivenLine : Line → Type 0
IsGivenLine e.too_long = Unit {0}
IsGivenLine e.not_json = Unit {0}
IsGivenLine e.no_event = Unit {0}
IsGivenLine e.no_commands = Unit {0}
IsGivenLine (e.event event) = IsGivenEvent event

-- whatever bytes a line has
abbrev pub LinesAreGiven : Type 0
LinesAreGiven = (bytes : Text) → IsGivenLine (line_of bytes)
