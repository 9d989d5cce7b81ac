use Rattle.std.proofs.Common.{Some, sym, ap, ◌∙◌, arith}
use Rattle.schema_tables.proofs.Finding.{finds, missing, within}
use Rattle.schema_tables.proofs.index.Index.get.Goals as goal
use Rattle.schema_tables.specs.Indexes.{is_named}

pub bounds-items-at : goal.bounds-items-at
bounds-items-at g c = within (is_named g.T.Named.name c.args.name.now) c.args.items.now c.in-Some.at (sym c.find.ensures ∙ c.in-Some.is)

pub offset_bounds-items-at : goal.offset_bounds-items-at
offset_bounds-items-at g c =
    let low = within (is_named g.T.Named.name c.args.name.now) c.args.items.now c.in-Some.at (sym c.find.ensures ∙ c.in-Some.is) in
    omega arith

pub returns-in-Some : goal.returns-in-Some
returns-in-Some g c =
    ap Some c.index-items-at.is ∙ sym (finds (is_named g.T.Named.name c.args.name.now) c.args.items.now c.in-Some.at c.index-items-at.result (sym c.find.ensures ∙ c.in-Some.is))

pub returns-in-None : goal.returns-in-None
returns-in-None g c = sym (missing (is_named g.T.Named.name c.args.name.now) c.args.items.now (sym c.find.ensures ∙ c.in-None.is))
