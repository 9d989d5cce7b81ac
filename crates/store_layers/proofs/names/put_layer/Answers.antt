use Rattle.std.proofs.Common.{◌≡◌, [], ◌∷◌, ◌++◌, false, ap, ◌∙◌, subst, string_bytes}
use Rattle.std.proofs.lemmas.List.{map-append}
use Rattle.std.specs.Result.{OnOk}
use Rattle.std.specs.String.{string_eq}
use Rattle.indexmap.proofs.CallerLemmas.{insert_entry-new}
use Rattle.indexmap.specs.IndexMap.{insert_entry}
use Rattle.store_layers.proofs.Places.{absent}
use Rattle.store_layers.proofs.names.put_layer.Goals as goal
use Rattle.store_layers.specs.Layered.{is_live}
use Rattle.store_layers.specs.Versions.{layer_of, layers_of}

pub returns-clause-layers : goal.returns-clause-layers
returns-clause-layers g c =
    let named = c.args.entries.now.entries in
    let room = c.reserve.new.self in
    let key = c.into_string.result in
    let rc = c.in_ok-entry.entry in
    let same : room.entries ≡ named = c.reserve.ensures.entries in
    let free : is_live (layers_of room.entries) (string_bytes key) ≡ false =
    (λ i. is_live (layers_of (same i)) (c.into_string.ensures i)) ∙ c.requires in
    let put : c.insert.new.self.entries ≡ insert_entry string_eq room.entries key rc =
    subst (λ r. OnOk r (c.insert.new.self.entries ≡ insert_entry string_eq room.entries key rc)) c.unwrap.ensures c.insert.ensures.entries in
    ap layers_of (put ∙ insert_entry-new string_eq room key rc (absent (string_bytes key) room.entries free))
    ∙ map-append layer_of room.entries ((key, rc) ∷ [])
    ∙ (λ i. layers_of (same i) ++ (c.into_string.ensures i, c.in_ok-entry.ensures.ok i) ∷ [])
