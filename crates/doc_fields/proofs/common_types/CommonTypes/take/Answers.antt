-- What is taken out is right, and so is what is left.
use Rattle.std.proofs.Common.{None}
use Rattle.std.proofs.lemmas.Map.Text.{btree_map_updates_str}
use Rattle.doc_fields.proofs.CommonSteps.{first_common, kept_common, some_common, taken_common}
use Rattle.doc_fields.proofs.common_types.CommonTypes.take.Goals as goal

pub returns-in-Some-clause-taken : goal.returns-in-Some-clause-taken
returns-in-Some-clause-taken c = λ defs common. some_common defs c.args.of.now _ _ c.in-Some.is (kept_common defs c.args.of.now _ _ c.remove.ensures.value (common c.args.of.now))

pub returns-in-Some-clause-common : goal.returns-in-Some-clause-common
returns-in-Some-clause-common c = λ defs common other.
    kept_common defs other _ _ (btree_map_updates_str c.args.of.now c.args.self.now.by_type c.remove.new.self None c.remove.ensures.updates other) (taken_common defs other _ _ (common other))

pub returns-in-None-clause-taken : goal.returns-in-None-clause-taken
returns-in-None-clause-taken c = λ defs common. first_common defs c.args.of.now _ c.new.ensures

pub returns-in-None-clause-common : goal.returns-in-None-clause-common
returns-in-None-clause-common c = λ defs common other.
    kept_common defs other _ _ (btree_map_updates_str c.args.of.now c.args.self.now.by_type c.remove.new.self None c.remove.ensures.updates other) (taken_common defs other _ _ (common other))
