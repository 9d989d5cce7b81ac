-- What a closed type implements is named, and leaves out nothing that is not named.
use Rattle.schema_rules.proofs.InheritedSteps.{none_of, covers_all, covers_one}
use Rattle.schema_rules.specs.Inherited.{is_open}
use Rattle.schema_rules.specs.Rules as rules
use Rattle.schema_rules.proofs.rules.inherited.cover.Goals as goal

pub returns : goal.returns
returns c = λ ns k h.
    let closed = none_of c.args.closed.now.names (is_open c.args.tables.now) c.args.name.now c.requires c.contains-2.result c.contains-2.ensures c.if-not-contains.false in
    let own = c.in_ok-put.ensures (rules.leaves_out c.args.tables.now ns) h
    (covers_one c.args.tables.now ns c.args.name.now c.interfaces-interfaces.result.now c.lacks_any.result c.interfaces-interfaces.ensures (c.lacks_any.ensures ns k) c.if-lacks_any.false) in
    c.put_all.ensures (rules.leaves_out c.args.tables.now ns) own
    (covers_all c.args.tables.now ns c.args.name.now c.interfaces-interfaces.result.now c.lacks_any.result c.interfaces-interfaces.ensures (c.lacks_any.ensures ns k) c.if-lacks_any.false closed)
