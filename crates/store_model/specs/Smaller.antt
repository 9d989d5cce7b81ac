-- A value that is found in an object or an array is less deep, so that a walk of a response ends.
use Rattle.std.specs.Prelude.{◌≡◌, ℕ, ◌<◌, List, Some}
use Rattle.serde_json.specs.Data as J
use Rattle.serde_json.specs.Find.{get_member, get_item}

abbrev pub FoundIsSmaller : Type 0
FoundIsSmaller = ((key : List ℕ) (ms : J.Members) (d : J.Data) → get_member key ms ≡ Some d → J.depth d < J.depth (J.object ms))
    × ((i : ℕ) (ds : J.Items) (d : J.Data) → get_item i ds ≡ Some d → J.depth d < J.depth (J.array ds))
