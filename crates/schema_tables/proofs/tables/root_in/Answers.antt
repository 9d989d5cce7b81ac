use Rattle.std.proofs.Common.{◌≡◌, ℕ, zero, suc, ◌<◌, true, cond, List, [], ◌∷◌, length, get_or, drop, Some, sym, ap, ◌∙◌, refl, arith}
use denote.Enum.Bare.{sameb}
use Rattle.gql_ast.specs.contracts.document.Kind.{the_type}
use Rattle.gql_ast.specs.declared.document.Kind.{Kind}
use Rattle.gql_ast.specs.declared.document.Kind.TheVariants.{Query, Mutation, Subscription}
use Rattle.gql_ast.specs.declared.schema.Root.{Root}
use Rattle.schema_tables.proofs.tables.root_in.Goals as goal
use Rattle.schema_tables.specs.Types.{same_kind, root_in}

same : (a b : Kind) → sameb the_type a b ≡ same_kind a b
same Query Query = refl
same Query Mutation = refl
same Query Subscription = refl
same Mutation Query = refl
same Mutation Mutation = refl
same Mutation Subscription = refl
same Subscription Query = refl
same Subscription Mutation = refl
same Subscription Subscription = refl

here : (roots : List Root) (i : ℕ) (root : Root) (k : Kind) → i < length roots → root ≡ get_or roots i root → same_kind root.kind k ≡ true → root_in (drop i roots) k ≡ Some root.name
here [] i root k low is e = absurd (omega arith)
here (r ∷ rs) zero root k low is e = ap (λ x. root_in (x ∷ rs) k) (sym is) ∙ ap (λ b. cond b (Some root.name) (root_in rs k)) e
here (r ∷ rs) (suc i) root k low is e = here rs i root k (omega arith) is e

pub returns-then-eq : goal.returns-then-eq
returns-then-eq c =
    sym (c.roots.invariant
    ∙ here c.args.roots.now c.roots.root-index c.root-item.result c.args.kind c.roots-test.true c.root-item.is
    (sym (same c.root-item.result.kind c.args.kind) ∙ sym c.eq.ensures ∙ c.if-eq.true))
