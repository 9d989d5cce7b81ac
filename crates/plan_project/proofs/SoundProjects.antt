-- What the rules give of the fragments and the operations of documents that are read.
use Rattle.std.proofs.Common.{◌≡◌, ℕ, ◌+◌, Bool, true, false, cond, List, [], ◌∷◌, ◌++◌, Option, Some, None, refl, sym, subst}
use Rattle.std.specs.List.{AllByRecursion}
use Rattle.plan_ir.specs.gql_ast.declared.document.Document.{Document}
use Rattle.plan_ir.specs.gql_ast.declared.place.Placed.{Placed}
use Rattle.plan_ir.proofs.gql_graph_laws.TextSteps.{same_text}
use Rattle.plan_ir.specs.gql_graph.Rules.{each, first_broken}
use Rattle.plan_ir.specs.Expansion.{is_named, operation_named}
use Rattle.plan_project.proofs.ReadTrees.{ReadAt, ReadFragment, ReadOperation}
use Rattle.plan_project.proofs.SoundLocals.{locals_sound}
use Rattle.plan_project.proofs.SoundNodes.{SoundFragment}
use Rattle.plan_project.proofs.SpreadChains.{HasSites, Meets, names_of, none_each}
use Rattle.relay_dirs.specs.relay_rules.RelayRules.{document_rules, relay_rules}
use Rattle.plan_ir.specs.schema_rules.declared.fault.Rule.{Rule}
use Rattle.plan_ir.specs.schema_rules.declared.fault.Rule.TheVariants as R
use Rattle.plan_ir.specs.schema_tables.Types.{Text, Defs}
use Rattle.plan_ir.specs.schema_trees.Located.{Located, directives_nodes}
use Rattle.plan_ir.specs.schema_types.DocumentRules.{Meet, argument_rules, field_rules, trees_of}
use Rattle.plan_ir.specs.schema_types.NameRules.{conditions_wrong, fragments, fragments_not_there, fragments_not_unique, leads_back, not_there, operations, operations_not_named, roots_missing, sites_of, spreads_in, spreads_on_cycles}
use Rattle.plan_ir.specs.schema_types.Sites.{DefinitionAt, FragmentAt, OperationAt, all_definitions, fragment, operation}

-- ---- the fourth and the fifth of the rules on names

pub holds : (r : Rule) (ns : List ℕ) (more : List (Rule × List ℕ)) → first_broken ((r, ns) ∷ more) ≡ None → (ns ≡ []) × (first_broken more ≡ None)
holds r [] more e = (refl, e)
holds r (n ∷ ns) more e = cc

-- the fourth and the fifth of such rules
later_hold : (a b c d e : Rule × List ℕ) (more : List (Rule × List ℕ)) → first_broken (a ∷ b ∷ c ∷ d ∷ e ∷ more) ≡ None → (d.1 ≡ []) × (e.1 ≡ [])
later_hold a b c d e more h =
    let one = holds a.0 a.1 (b ∷ c ∷ d ∷ e ∷ more) h in
    let two = holds b.0 b.1 (c ∷ d ∷ e ∷ more) one.1 in
    let three = holds c.0 c.1 (d ∷ e ∷ more) two.1 in
    let four = holds d.0 d.1 (e ∷ more) three.1 in
    let five = holds e.0 e.1 more four.1 in
    (four.0, five.0)

-- V4 and V5
pub spreads_hold : (defs : Defs) (ps : List (Placed Document)) → Meet document_rules defs ps
    → (fragments_not_there (all_definitions defs (trees_of ps)) ≡ []) × (spreads_on_cycles (all_definitions defs (trees_of ps)) ≡ [])
spreads_hold defs ps m =
    let ds : List DefinitionAt = all_definitions defs (trees_of ps) in
    later_hold (R.V1, operations_not_named ds) (R.V2, fragments_not_unique ds) (R.V3, conditions_wrong defs ds) (R.V4, fragments_not_there ds) (R.V5, spreads_on_cycles ds)
    ((R.V6, roots_missing defs ds) ∷ (field_rules defs ds ++ (argument_rules defs ds ++ relay_rules defs ds))) m

-- ---- fragments and operations among definitions

abbrev OfFragment : (FragmentAt → Type 0) → DefinitionAt → Type 0
OfFragment P (operation o) = Unit {0}
OfFragment P (fragment f) = P f

abbrev OfOperation : (OperationAt → Type 0) → DefinitionAt → Type 0
OfOperation P (operation o) = P o
OfOperation P (fragment f) = Unit {0}

all_fragments : (P : FragmentAt → Type 0) (ds : List DefinitionAt) → AllByRecursion (OfFragment P) ds → AllByRecursion P (fragments ds)
all_fragments P [] h = tt
all_fragments P (operation o ∷ ds) h = all_fragments P ds h.1
all_fragments P (fragment f ∷ ds) h = (h.0, all_fragments P ds h.1)

all_operations : (P : OperationAt → Type 0) (ds : List DefinitionAt) → AllByRecursion (OfOperation P) ds → AllByRecursion P (operations ds)
all_operations P [] h = tt
all_operations P (operation o ∷ ds) h = (h.0, all_operations P ds h.1)
all_operations P (fragment f ∷ ds) h = all_operations P ds h.1

-- ---- fragments

pub fragment_sound : (defs : Defs) (f : FragmentAt) → ReadFragment defs f → SoundFragment f
fragment_sound defs f r =
    let s = r.read.0 in
    subst SoundFragment (sym r.is) (record { on = s.0; locals = locals_sound (r.from + 4) r.tree.directives s.1; set = s.2 })

fragment_sites : (defs : Defs) (f : FragmentAt) → ReadFragment defs f → HasSites defs f
fragment_sites defs f r =
    subst (λ g. HasSites defs g) (sym r.is)
    (record { from = r.from + 4 + directives_nodes r.tree.directives; around = Some r.tree.on; are = refl })

module _ (defs : Defs) (ds : List DefinitionAt) (read : AllByRecursion (ReadAt defs) ds) (there : fragments_not_there ds ≡ []) where
  abbrev fs : List FragmentAt
  fs = fragments ds

  abbrev There : DefinitionAt → Type 0
  There d = each (not_there (names_of fs)) (spreads_in (sites_of d)) ≡ []

  all_there : AllByRecursion There ds
  all_there = none_each (λ d. each (not_there (names_of fs)) (spreads_in (sites_of d))) ds there

  -- what is read, and where the spreads of it are found
  module _ where
    read_fragments : (es : List DefinitionAt) → AllByRecursion (ReadAt defs) es → AllByRecursion There es
        → AllByRecursion (OfFragment (λ f. ReadFragment defs f × There (fragment f))) es
    read_fragments [] h k = tt
    read_fragments (operation o ∷ es) h k = (tt, read_fragments es h.1 k.1)
    read_fragments (fragment f ∷ es) h k = ((h.0, k.0), read_fragments es h.1 k.1)

    read_operations : (es : List DefinitionAt) → AllByRecursion (ReadAt defs) es → AllByRecursion There es
        → AllByRecursion (OfOperation (λ o. ReadOperation defs o × There (operation o))) es
    read_operations [] h k = tt
    read_operations (operation o ∷ es) h k = ((h.0, k.0), read_operations es h.1 k.1)
    read_operations (fragment f ∷ es) h k = (tt, read_operations es h.1 k.1)

  fragments_there : AllByRecursion (λ f. ReadFragment defs f × There (fragment f)) fs
  fragments_there = all_fragments (λ f. ReadFragment defs f × There (fragment f)) ds (read_fragments ds read all_there)

  pub operations_there : AllByRecursion (λ o. ReadOperation defs o × There (operation o)) (operations ds)
  operations_there = all_operations (λ o. ReadOperation defs o × There (operation o)) ds (read_operations ds read all_there)

  all_sound : (gs : List FragmentAt) → AllByRecursion (λ f. ReadFragment defs f × There (fragment f)) gs → AllByRecursion SoundFragment gs
  all_sound [] h = tt
  all_sound (f ∷ gs) h = (fragment_sound defs f h.0.0, all_sound gs h.1)

  pub fragments_sound : AllByRecursion SoundFragment fs
  fragments_sound = all_sound fs fragments_there

  all_meet : (gs : List FragmentAt) → AllByRecursion (λ f. ReadFragment defs f × There (fragment f)) gs
      → AllByRecursion (λ (f : FragmentAt). each (leads_back fs f) (spreads_in f.sites) ≡ []) gs → AllByRecursion (Meets defs fs) gs
  all_meet [] h k = tt
  all_meet (f ∷ gs) h k = (record { sites = fragment_sites defs f h.0.0; there = h.0.1; acyclic = k.0 }, all_meet gs h.1 k.1)

  pub fragments_meet : spreads_on_cycles ds ≡ [] → AllByRecursion (Meets defs fs) fs
  fragments_meet e = all_meet fs fragments_there (none_each (λ (f : FragmentAt). each (leads_back fs f) (spreads_in f.sites)) fs e)

-- ---- the operation of a name

pub record Named (o : OperationAt) (n : Text) : Type 0 where
  pub located : Located
  pub is : o.name ≡ Some located
  pub same : located.name ≡ n

named : (o : OperationAt) (n : Text) → is_named n o.name ≡ true → Named o n
named o n e = on o.name refl e
  where
    on : (l : Option Located) → o.name ≡ l → is_named n l ≡ true → Named o n
    on None d e = cc
    on (Some l) d e = record { located = l; is = d; same = same_text l.name n e }

pub operation_found : (P : OperationAt → Type 0) (os : List OperationAt) (n : Text) (o : OperationAt) → AllByRecursion P os → operation_named os n ≡ Some o → P o × Named o n
operation_found P [] n o h e = absurd cc
operation_found P (q ∷ qs) n o h e = on (λ k. operation_found P qs n o h.1 k) (is_named n q.name) refl e
  where
    on : (operation_named qs n ≡ Some o → P o × Named o n) → (b : Bool) → is_named n q.name ≡ b → cond b (Some q) (operation_named qs n) ≡ Some o → P o × Named o n
    on later true d e = let same : q ≡ o = cc e in (subst P same h.0, subst (λ x. Named x n) same (named q n d))
    on later false d e = later e
