-- The walk over what stands ready makes the expansion.
use Rattle.std.proofs.Common.{◌≡◌, ℕ, zero, suc, ◌+◌, ◌-◌, List, [], ◌∷◌, ◌++◌, drop, length, get_or, Option, Some, None, option_map, refl, ap, sym, ◌∙◌, arith, append_assoc}
use Rattle.std.proofs.lemmas.List.{append-nil, length-append, length-map, map-append}
use Rattle.std.specs.Prelude.{is_some}
use Rattle.plan_ir.specs.gql_ast.Sels as sels
use Rattle.plan_ir.specs.gql_ast.Sels.{Sels}
use Rattle.plan_ir.specs.gql_ast.Value.{Val}
use Rattle.plan_ir.specs.gql_ast.declared.directive.Directive.{Directive}
use Rattle.plan_ir.specs.gql_ast.declared.place.FilePlace.{FilePlace}
use Rattle.plan_ir.specs.Additions.{additions, type_or}
use Rattle.plan_ir.specs.Expansion.{Project, argument_pairs, directive_trees, enter_with, expansion, expansion_with, printed_conditions, printed_directives, response_key, selections_from}
use Rattle.plan_ir.specs.Nodes.{Nodes, field, inline, nodes_append}
use Rattle.plan_ir.specs.relay_marks.Connections.{connection_among}
use Rattle.plan_ir.specs.Substitution.{Scope, scope_at_spread, substitute_in}
use Rattle.plan_ir.specs.schema_tables.Types.{Text, Defs, base_of}
use Rattle.plan_ir.specs.schema_trees.Located.{directives_nodes, value_nodes}
use Rattle.plan_ir.specs.schema_types.NameRules.{fragment_named}
use Rattle.plan_ir.specs.schema_types.Sites.{FragmentAt, Site, arguments_at, arguments_nodes, below, condition_or, directives_at, field_type, head_nodes, optional_name_at, optional_name_nodes, selections_nodes, sites}
use Rattle.plan_expand.specs.Places.{field_number, site_place, site_places_in}
use Rattle.plan_ir.specs.Projects.{Places, first_place}
use Rattle.plan_expand.specs.Making.{Enter, Find, Ready, enter_ready, entering, making, making_with, selections_count}
use Rattle.plan_expand.specs.Fitting.{AreListed, IsListed}
use Rattle.plan_expand.specs.ReadyView.{HasFragments, ready_fragment}
use Rattle.plan_expand.proofs.Lists.{end_left, first_left, rest_left}

-- ---- places of selections

pairs_at : (from : ℕ) (xs : List (Text × Val)) → argument_pairs (arguments_at from xs) ≡ xs
pairs_at from [] = refl
pairs_at from (x ∷ xs) = ap (λ (ys : List (Text × Val)). x ∷ ys) (pairs_at (from + (2 + value_nodes x.1)) xs)

pub trees_at : (from : ℕ) (ds : List Directive) → directive_trees (directives_at from ds) ≡ ds
trees_at from [] = refl
trees_at from (d ∷ ds) = λ i. record { name = d.name; arguments = pairs_at (from + 2) d.arguments i } ∷ trees_at (from + (2 + arguments_nodes d.arguments)) ds i

number_at : (from : ℕ) (a : Option Text) (n : Text) → field_number (optional_name_at (from + 1) a) (record { name = n; at = from + 1 + optional_name_nodes a }) ≡ from
number_at from None n = omega arith
number_at from (Some a) n = omega arith

spread_number : (from : ℕ) → (from + 1) - 1 ≡ from
spread_number from = omega arith

sites_count : (defs : Defs) (from : ℕ) (around : Option Text) (s : Sels) → length (sites defs from around s) ≡ selections_count s
sites_count defs from around sels.end = refl
sites_count defs from around (sels.field a n xs ds s rest) =
    let inner : ℕ = from + head_nodes a + arguments_nodes xs + directives_nodes ds in
    let ss : List Site = sites defs inner (below defs around n) s in
    let rs : List Site = sites defs (inner + selections_nodes s) around rest in
    let one : length ss ≡ selections_count s = sites_count defs inner (below defs around n) s in
    let two : length rs ≡ selections_count rest = sites_count defs (inner + selections_nodes s) around rest in
    let all : length (ss ++ rs) ≡ length ss + length rs = length-append ss rs in
    omega (arith, all, one, two)
sites_count defs from around (sels.spread n ds rest) = omega (arith, sites_count defs (from + 2 + directives_nodes ds) around rest)
sites_count defs from around (sels.inline o ds s rest) =
    let inner : ℕ = from + 1 + optional_name_nodes o + directives_nodes ds in
    let ss : List Site = sites defs inner (condition_or around o) s in
    let rs : List Site = sites defs (inner + selections_nodes s) around rest in
    let one : length ss ≡ selections_count s = sites_count defs inner (condition_or around o) s in
    let two : length rs ≡ selections_count rest = sites_count defs (inner + selections_nodes s) around rest in
    let all : length (ss ++ rs) ≡ length ss + length rs = length-append ss rs in
    omega (arith, all, one, two)

-- ---- one set, with any two ways to enter spreads that agree

abbrev field_made : Defs → Scope → (around alias : Option Text) → Text → List (Text × Val) → List Directive → Sels → FilePlace → (inside rest : Nodes) → Nodes
field_made defs scope around a n xs ds s h inside rest =
    field (response_key a n) n (substitute_in scope xs) (printed_directives scope ds) (connection_among ds) (type_or (field_type defs around n))
    (nodes_append inside (additions defs (is_some (connection_among ds)) (base_of (type_or (field_type defs around n))) s h)) h rest

module _ (p : Project) (scope : Scope) (places : Places) (one : Enter) (other : (from : ℕ) → Text → List Directive → Nodes → Nodes)
    (same : (from : ℕ) (h : FilePlace) (n : Text) (ds : List Directive) (rest : Nodes) → h ≡ p.place from → one scope h n ds rest ≡ other from n ds rest) where
  set_is : (s : Sels) (from at : ℕ) (around : Option Text) (more : Places) → drop at places ≡ site_places_in p.place (sites p.defs from around s) ++ more
      → making_with one p.defs scope places at around s ≡ expansion_with other p scope from around s
  set_is sels.end from at around more e = refl
  set_is (sels.field a n xs ds s rest) from at around more e =
      let inner : ℕ = from + head_nodes a + arguments_nodes xs + directives_nodes ds in
      let ss : List Site = sites p.defs inner (below p.defs around n) s in
      let rs : List Site = sites p.defs (inner + selections_nodes s) around rest in
      let h : FilePlace = p.place from in
      let parts : site_places_in p.place (ss ++ rs) ++ more ≡ site_places_in p.place ss ++ (site_places_in p.place rs ++ more) =
      ap (λ (l : Places). l ++ more) (map-append (site_place p.place) ss rs) ∙ append_assoc (site_places_in p.place ss) (site_places_in p.place rs) more in
      let here : p.place (field_number (optional_name_at (from + 1) a) (record { name = n; at = from + 1 + optional_name_nodes a })) ≡ h = ap p.place (number_at from a n) in
      let behind : Places = site_places_in p.place ss ++ (site_places_in p.place rs ++ more) in
      let whole : drop at places ≡ h ∷ behind = e ∙ (λ i. here i ∷ parts i) in
      λ i. field_made p.defs scope around a n xs ds s (first_left places at first_place h behind whole i)
      (set_is s inner (at + 1) (below p.defs around n) (site_places_in p.place rs ++ more) (rest_left places at h behind whole) i)
      (set_is rest (inner + selections_nodes s) (at + (1 + selections_count s)) around more
      (end_left places at (selections_count s) h (site_places_in p.place ss) (site_places_in p.place rs ++ more) whole (length-map ss (site_place p.place) ∙ sites_count p.defs inner (below p.defs around n) s)) i)
  set_is (sels.spread n ds rest) from at around more e =
      let rs : List Site = sites p.defs (from + 2 + directives_nodes ds) around rest in
      let h : FilePlace = p.place from in
      let here : p.place ((from + 1) - 1) ≡ h = ap p.place (spread_number from) in
      let behind : Places = site_places_in p.place rs ++ more in
      let whole : drop at places ≡ h ∷ behind = e ∙ (λ i. here i ∷ behind) in
      same from (get_or places at first_place) n ds (making_with one p.defs scope places (at + 1) around rest) (first_left places at first_place h behind whole)
      ∙ ap (other from n ds) (set_is rest (from + 2 + directives_nodes ds) (at + 1) around more (rest_left places at h behind whole))
  set_is (sels.inline o ds s rest) from at around more e =
      let inner : ℕ = from + 1 + optional_name_nodes o + directives_nodes ds in
      let ss : List Site = sites p.defs inner (condition_or around o) s in
      let rs : List Site = sites p.defs (inner + selections_nodes s) around rest in
      let h : FilePlace = p.place from in
      let parts : site_places_in p.place (ss ++ rs) ++ more ≡ site_places_in p.place ss ++ (site_places_in p.place rs ++ more) =
      ap (λ (l : Places). l ++ more) (map-append (site_place p.place) ss rs) ∙ append_assoc (site_places_in p.place ss) (site_places_in p.place rs) more in
      let behind : Places = site_places_in p.place ss ++ (site_places_in p.place rs ++ more) in
      let whole : drop at places ≡ h ∷ behind = e ∙ (λ i. h ∷ parts i) in
      λ i. inline o (printed_directives scope ds)
      (set_is s inner (at + 1) (condition_or around o) (site_places_in p.place rs ++ more) (rest_left places at h behind whole) i)
      (first_left places at first_place h behind whole i)
      (set_is rest (inner + selections_nodes s) (at + (1 + selections_count s)) around more
      (end_left places at (selections_count s) h (site_places_in p.place ss) (site_places_in p.place rs ++ more) whole (length-map ss (site_place p.place) ∙ sites_count p.defs inner (condition_or around o) s)) i)

-- ---- spreads

-- so many spreads are made as they expand
abbrev IsMade : Project → Find → (k : ℕ) → Type 0
IsMade p find k = (scope : Scope) (places : Places) (s : Sels) (from at : ℕ) (around : Option Text) (more : Places)
    → drop at places ≡ site_places_in p.place (sites p.defs from around s) ++ more → making k p.defs find scope places at around s ≡ expansion k p scope from around s

module _ (p : Project) (find : Find) (k : ℕ) (fewer : IsMade p find k) where
  spread_inside : (scope : Scope) (ds : List Directive) (f : FragmentAt) → IsListed p f
      → making k p.defs find (scope_at_spread scope ds f) (site_places_in p.place f.sites) 0 (Some f.on.name) f.selections ≡ expansion k p (scope_at_spread scope ds f) (selections_from f) (Some f.on.name) f.selections
  spread_inside scope ds f list =
      fewer (scope_at_spread scope ds f) (site_places_in p.place f.sites) f.selections (selections_from f) 0 (Some f.on.name) [] (ap (site_places_in p.place) list ∙ sym (append-nil (site_places_in p.place (sites p.defs (selections_from f) (Some f.on.name) f.selections))))

  spread_is : (scope : Scope) (from : ℕ) (h : FilePlace) (ds : List Directive) (rest : Nodes) → h ≡ p.place from → (q : Option FragmentAt)
      → ((f : FragmentAt) → q ≡ Some f → IsListed p f)
      → enter_ready (entering k p.defs find) p.defs scope h (option_map (ready_fragment p.place) q) ds rest
      ≡ enter_with (λ f. expansion k p (scope_at_spread scope ds f) (selections_from f) (Some f.on.name) f.selections) p scope from q ds rest
  spread_is scope from h ds rest place None list = refl
  spread_is scope from h ds rest place (Some f) list = λ i. inline (Some f.on.name) (printed_conditions scope ds) (spread_inside scope ds f (list f refl) i) (place i) rest

pub making_is : (p : Project) (find : Find) → HasFragments p.place find p.fragments → AreListed p → (k : ℕ) → IsMade p find k
making_is p find ready listed zero scope places s from at around more e =
    set_is p scope places (entering zero p.defs find) (λ f n ds rest. rest) (λ f h n ds rest place. refl) s from at around more e
making_is p find ready listed (suc k) scope places s from at around more e =
    set_is p scope places (entering (suc k) p.defs find)
    (λ f n ds rest. enter_with (λ g. expansion k p (scope_at_spread scope ds g) (selections_from g) (Some g.on.name) g.selections) p scope f (fragment_named p.fragments n) ds rest)
    (λ f h n ds rest place.
    ap (λ (o : Option Ready). enter_ready (entering k p.defs find) p.defs scope h o ds rest) (ready n)
    ∙ spread_is p find k (making_is p find ready listed k) scope f h ds rest place (fragment_named p.fragments n) (listed n))
    s from at around more e
