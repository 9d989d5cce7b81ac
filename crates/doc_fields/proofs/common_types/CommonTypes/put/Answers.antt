-- One more pair.
use Rattle.std.proofs.lemmas.Map.Text.{btree_map_updates_str}
use Rattle.doc_fields.proofs.CommonSteps.{kept_common, next_common, put_common}
use Rattle.doc_fields.proofs.common_types.CommonTypes.put.Goals as goal

pub returns : goal.returns
returns c = λ defs common have other.
    kept_common defs other _ _ (btree_map_updates_str c.args.of.now c.take-known.new.self.by_type c.insert-2.new.self _ c.in_ok-insert.ensures.updates other)
    (put_common defs c.args.of.now other _ _ (next_common defs c.args.of.now c.args.on.now c.take-known.result _ (c.take-known.ensures.taken defs common) c.in_ok-_is_new.ensures.known have) (c.take-known.ensures.common defs common other))
