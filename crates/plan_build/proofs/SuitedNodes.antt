-- What selections that meet the rules become is suited, through all spreads.
use Rattle.std.proofs.Common.{◌≡◌, ℕ, Bool, true, false, cond, List, [], ◌∷◌, Some, bytes_eq, subst}
use Rattle.std.specs.List.{AllByRecursion}
use Rattle.plan_ir.specs.gql_ast.Sels.{Sels}
use Rattle.plan_build.proofs.Covariance.{Within}
use Rattle.plan_build.proofs.CovarianceRules.{SchemaMeets}
use Rattle.plan_build.proofs.ExpandedNodes.{EachNode, nodes_hold, whole_set}
use Rattle.plan_build.proofs.SuitedAdditions.{additions_suit, nodes_appended}
use Rattle.plan_build.proofs.SuitedFields.{field_suits}
use Rattle.plan_build.specs.Meeting.{FragmentsMeet, Meets}
use Rattle.plan_build.specs.Suited.{Suited}
use Rattle.plan_ir.specs.Expansion.{Project, expansion}
use Rattle.plan_ir.specs.Substitution.{Scope}
use Rattle.plan_ir.specs.schema_tables.Types.{Text, Defs}
use Rattle.plan_ir.specs.schema_types.NameRules.{fragment_named}
use Rattle.plan_ir.specs.schema_types.Sites.{FragmentAt}

-- what holds of each fragment holds of the one that is found
pub fragment_holds : (P : FragmentAt → Type 0) (fs : List FragmentAt) (n : Text) (f : FragmentAt) → AllByRecursion P fs → fragment_named fs n ≡ Some f → P f
fragment_holds P [] n f h e = absurd cc
fragment_holds P (g ∷ gs) n f h e = on (λ k. fragment_holds P gs n f h.1 k) (bytes_eq g.name.name n) e
  where
    on : (fragment_named gs n ≡ Some f → P f) → (b : Bool) → cond b (Some g) (fragment_named gs n) ≡ Some f → P f
    on later true d = let same : g ≡ f = cc d in subst P same h.0
    on later false d = later d

each_suited : (defs : Defs) → SchemaMeets defs → EachNode defs (Suited defs)
each_suited defs meets = record {
  nothing = λ around t. tt;
  appended = nodes_appended defs;
  asked = λ around t r n xs ys ds c s set p rest within field bare ends inside later. (
    λ T k. (field_suits defs meets around t n ys c (whole_set defs around n c s set p) within
        (record { there = field.there; bare = λ same. bare (field.bare same); plain = field.plain; connection = field.connection })
        (λ same. ends (field.alone same)) inside T k).0,
    inside,
    later,
  );
  added = λ c of s p connected. additions_suit defs p meets c of of s connected (λ T k. k);
  inside = λ around t o ds s p rest h k. (h, k);
}

-- so many spreads may stand in one another
pub expanded : (p : Project) → SchemaMeets p.defs → FragmentsMeet p → (k : ℕ) (scope : Scope) (from : ℕ) (around t : Text) (s : Sels) → Within p.defs t around → Meets p.defs around s
    → Suited p.defs around t (expansion k p scope from (Some around) s)
expanded p meets fragments k scope from around t s within h = nodes_hold p (Suited p.defs) (each_suited p.defs meets) fragments k scope from around t s within h
