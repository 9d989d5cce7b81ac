-- One more fragment in front.
use Rattle.std.proofs.Common.{◌≡◌, ◌+◌, ◌-◌, ◌<◌, ◌∷◌, List, length, map, drop, get_or, add-one, ap, sym, subst, ◌∙◌, arith}
use Rattle.std.proofs.Math.Seq.{drop-cons}
use Rattle.std.specs.Prelude.{ℕ}
use Rattle.constant_values.specs.gql_graph.Texts.{Text}
use Rattle.relay_marks.specs.Locals.{Local}
use Rattle.relay_dirs.specs.Tables.{NamesFragments, pair_of}
use Rattle.relay_dirs.specs.declared.fragments.FragmentLocals.{FragmentLocals}
use Rattle.relay_dirs.proofs.fragments.Fragments.of.Goals as goal

front : (xs : List FragmentLocals) (i : ℕ) (x : FragmentLocals) → i < length xs → x ≡ get_or xs i x → pair_of x ∷ map pair_of (drop (i + 1) xs) ≡ map pair_of (drop i xs)
front xs i x h is =
    let same : drop i xs ≡ get_or xs i x ∷ drop (i + 1) xs = rw add-one (drop-cons xs i x h) in
    ap (λ (y : FragmentLocals). pair_of y ∷ map pair_of (drop (i + 1) xs)) is ∙ sym (ap (map pair_of) same)

pub fragments-preserved : goal.fragments-preserved
fragments-preserved c =
    let low : c.fragments.left - 1 < length c.args.all.now = omega (arith, c.fragments.invariant.0) in
    let next : c.fragments.left ≡ (c.fragments.left - 1) + 1 = omega arith in
    let rest : List (Text × List Local) = map pair_of (drop ((c.fragments.left - 1) + 1) c.args.all.now) in
    let passed : NamesFragments c.fragments.table rest =
    subst (λ (k : ℕ). NamesFragments c.fragments.table (map pair_of (drop k c.args.all.now))) next c.fragments.invariant.1 in
    let all : pair_of c.index-all-left.result ∷ rest ≡ map pair_of (drop (c.fragments.left - 1) c.args.all.now) =
    front c.args.all.now (c.fragments.left - 1) c.index-all-left.result low c.index-all-left.is in (
      omega (arith, c.fragments.invariant.0),
      subst (λ (ps : List (Text × List Local)). NamesFragments c.put.new.self ps) all (c.in_ok-put.ensures rest passed),
    )
