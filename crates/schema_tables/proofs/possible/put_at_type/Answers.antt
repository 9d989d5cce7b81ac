use Rattle.std.proofs.Common.{sym, ap, ◌∙◌, arith}
use Rattle.schema_tables.proofs.Finding.{within}
use Rattle.schema_tables.proofs.possible.put_at_type.Goals as goal
use Rattle.schema_tables.specs.Parts.{is_type}
use Rattle.schema_tables.specs.Places.{first_at}

pub put_at-requires : goal.put_at-requires
put_at-requires c =
    let low = within (is_type c.args.of.now) c.args.definitions.now c.in-Some.at
    (ap (λ n. first_at (is_type n) c.args.definitions.now) (sym c.as_str.ensures) ∙ sym c.find_type.ensures ∙ c.in-Some.is) in
    omega (arith, low)
