-- What sound selections become is sound: names are Names, strings are UTF-8, and no inline fragment is empty.
use Rattle.std.proofs.Common.{◌≡◌, ℕ, zero, suc, ◌+◌, Bool, true, false, not, ◌&&◌, cond, List, [], ◌∷◌, ◌++◌, map, codes, Option, Some, None, is_some, bytes_eq, refl, sym, subst}
use Rattle.std.specs.List.{AllByRecursion, filter}
use Rattle.std.specs.Option.{IfSome}
use Rattle.plan_ir.specs.gql_ast.Sels as sels
use Rattle.plan_ir.specs.gql_ast.Sels.{Sels}
use Rattle.plan_ir.specs.gql_ast.Value.{Val, Vals, Members, variable, int, text, truth, null, enum, list, object, no_vals, val, no_members, member}
use Rattle.plan_ir.specs.gql_ast.declared.directive.Directive.{Directive}
use Rattle.plan_ir.specs.gql_ast.declared.place.FilePlace.{FilePlace}
use Rattle.plan_ir.specs.gql_graph.Rules.{each}
use Rattle.text_places.specs.gql_parse.Documents.{SomeSelection}
use Rattle.plan_ir.specs.gql_syntax.Words.{IsName}
use Rattle.plan_ir.specs.Additions.{additions, connection_additions, edges_field, has_bare, id_additions, id_field, ids_on, is_abstract, leaf_on, node_field, or_typename, page_info_field, record_additions, type_on, type_or, typename_additions, typename_field}
use Rattle.plan_ir.specs.Expansion.{Project, directives_such, enter_with, expansion, expansion_with, is_condition, is_printed, response_key, selections_from}
use Rattle.plan_ir.specs.Nodes.{Nodes, end, field, inline, nodes_append}
use Rattle.plan_ir.specs.Substitution.{Arguments, Scope, arguments_at_spread, arguments_in, default_named, operation_scope, scope_at_spread, substitute, substitute_in, substitute_items, substitute_members, value_of_local, value_or}
use Rattle.plan_project.proofs.SchemaNames.{PossibleNames}
use Rattle.plan_project.proofs.SoundTrees.{SoundArguments, SoundDirective, SoundDirectives, SoundMembers, SoundSelections, SoundSet, SoundValue, SoundValues}
use Rattle.plan_project.proofs.SpreadChains.{AllSpreads, Bounded, all_found, spreads_map}
use Rattle.plan_text.proofs.OperationRead.{all-filter}
use Rattle.plan_text.specs.Documents.{SomeNode}
use Rattle.plan_ir.specs.relay_marks.Connections.{connection_among, value_of_name}
use Rattle.plan_ir.specs.relay_marks.Locals.{Local, locals_of}
use Rattle.plan_ir.specs.schema_tables.Types.{Text, Defs, base_of, has_id, possible}
use Rattle.plan_ir.specs.schema_trees.Located.{directives_nodes}
use Rattle.plan_ir.specs.schema_types.NameRules.{fragment_named}
use Rattle.plan_ir.specs.schema_types.Sites.{FragmentAt, arguments_nodes, below, condition_or, field_type, head_nodes, optional_name_nodes, selections_nodes}

abbrev pub SoundNodes : Nodes → Type 0
SoundNodes end = Unit {0}
SoundNodes (field r n xs ds c of s p rest) = IsName r × IsName n × SoundArguments xs × SoundDirectives ds × SoundNodes s × SoundNodes rest
SoundNodes (inline o ds s p rest) = IfSome o IsName × SoundDirectives ds × SomeNode s × SoundNodes s × SoundNodes rest

-- ---- substitution

abbrev pub SoundScope : Scope → Type 0
SoundScope scope = (n : Text) → IsName n → SoundValue (scope n)

module _ (scope : Scope) (given : SoundScope scope) where
  mutual
    value_put : (v : Val) → SoundValue v → SoundValue (substitute scope v)
    value_put (variable n) h = given n h
    value_put (int z) h = h
    value_put (text t) h = h
    value_put (truth b) h = h
    value_put null h = h
    value_put (enum n) h = h
    value_put (list vs) h = values_put vs h
    value_put (object ms) h = members_put ms h

    values_put : (vs : Vals) → SoundValues vs → SoundValues (substitute_items scope vs)
    values_put no_vals h = tt
    values_put (val v vs) h = (value_put v h.0, values_put vs h.1)

    members_put : (ms : Members) → SoundMembers ms → SoundMembers (substitute_members scope ms)
    members_put no_members h = tt
    members_put (member n v ms) h = (h.0, value_put v h.1, members_put ms h.2)

  arguments_put : (xs : Arguments) → SoundArguments xs → SoundArguments (substitute_in scope xs)
  arguments_put [] h = tt
  arguments_put (x ∷ xs) h = ((h.0.0, value_put x.1 h.0.1), arguments_put xs h.1)

  directives_put : (ds : List Directive) → SoundDirectives ds
      → SoundDirectives (map (λ (d : Directive). record { name = d.name; arguments = substitute_in scope d.arguments }) ds)
  directives_put [] h = tt
  directives_put (d ∷ ds) h = ((h.0.0, arguments_put d.arguments h.0.1), directives_put ds h.1)

  pub directives_shown : (shows : Text → Bool) (ds : List Directive) → SoundDirectives ds → SoundDirectives (directives_such shows scope ds)
  directives_shown shows ds h =
      directives_put (filter (λ (d : Directive). shows d.name) ds) (all-filter SoundDirective (λ (d : Directive). shows d.name) ds h)

pub operation_sound : SoundScope operation_scope
operation_sound n h = h

-- ---- the scope of a fragment

abbrev pub SoundLocal : Local → Type 0
SoundLocal l = IfSome l.default SoundValue

-- a fragment as spreads see it
pub record SoundFragment (f : FragmentAt) : Type 0 where
  pub on : IsName f.on.name
  pub locals : AllByRecursion SoundLocal (locals_of f.directives)
  pub set : SoundSet f.selections

pub appended : (xs ys : Arguments) → SoundArguments xs → SoundArguments ys → SoundArguments (xs ++ ys)
appended [] ys h k = k
appended (x ∷ xs) ys h k = (h.0, appended xs ys h.1 k)

pub given_by : (b : Bool) (xs : Arguments) → SoundArguments xs → SoundArguments (cond b xs [])
given_by true xs h = h
given_by false xs h = tt

pub given_in : (ds : List Directive) → SoundDirectives ds → SoundArguments (each arguments_in ds)
given_in [] h = tt
given_in (d ∷ ds) h =
    appended (arguments_in d) (each arguments_in ds) (given_by (bytes_eq d.name (codes "arguments")) d.arguments h.0.1) (given_in ds h.1)

pub value_found : (xs : Arguments) (n : Text) → SoundArguments xs → IfSome (value_of_name xs n) SoundValue
value_found [] n h = tt
value_found (x ∷ xs) n h = on (value_found xs n h.1) (bytes_eq x.0 n)
  where
    on : IfSome (value_of_name xs n) SoundValue → (b : Bool) → IfSome (cond b (Some x.1) (value_of_name xs n)) SoundValue
    on more true = h.0.1
    on more false = more

abbrev SoundDefault : Option (Option Val) → Type 0
SoundDefault None = Unit {0}
SoundDefault (Some d) = IfSome d SoundValue

default_found : (ls : List Local) (n : Text) → AllByRecursion SoundLocal ls → SoundDefault (default_named ls n)
default_found [] n h = tt
default_found (l ∷ ls) n h = on (default_found ls n h.1) (bytes_eq l.name n)
  where
    on : SoundDefault (default_named ls n) → (b : Bool) → SoundDefault (cond b (Some l.default) (default_named ls n))
    on more true = h.0
    on more false = more

either_value : (given default : Option Val) → IfSome given SoundValue → IfSome default SoundValue → SoundValue (value_or given default)
either_value (Some v) d h k = h
either_value None (Some v) h k = k
either_value None None h k = tt

local_value : (xs : Arguments) (n : Text) (d : Option (Option Val)) → SoundArguments xs → SoundDefault d → IsName n → SoundValue (value_of_local xs n d)
local_value xs n None h k i = i
local_value xs n (Some d) h k i = either_value (value_of_name xs n) d (value_found xs n h) k

spread_sound : (scope : Scope) (ds : List Directive) (f : FragmentAt) → SoundScope scope → SoundDirectives ds → SoundFragment f → SoundScope (scope_at_spread scope ds f)
spread_sound scope ds f h k s n i =
    local_value (arguments_at_spread scope ds) n (default_named (locals_of f.directives) n) (arguments_put scope h (each arguments_in ds) (given_in ds k))
    (default_found (locals_of f.directives) n s.locals) i

-- ---- additions

nodes_appended : (s t : Nodes) → SoundNodes s → SoundNodes t → SoundNodes (nodes_append s t)
nodes_appended end t h k = k
nodes_appended (field r n xs ds c of s p rest) t h k = (h.0, h.1, h.2, h.3, h.4, nodes_appended rest t h.5 k)
nodes_appended (inline o ds s p rest) t h k = (h.0, h.1, h.2, h.3, nodes_appended rest t h.4 k)

either_nodes : (b : Bool) (s t : Nodes) → SoundNodes s → SoundNodes t → SoundNodes (cond b s t)
either_nodes true s t h k = h
either_nodes false s t h k = k

module _ (defs : Defs) (names : PossibleNames defs) (p : FilePlace) where
  id_sound : SoundNodes (id_field p)
  id_sound = (refl, refl, tt, tt, tt, tt)

  typename_sound : SoundNodes (typename_field p)
  typename_sound = (refl, refl, tt, tt, tt, tt)

  ids_sound : (ts : List Text) → AllByRecursion IsName ts → SoundNodes (ids_on defs p ts)
  ids_sound [] h = tt
  ids_sound (t ∷ ts) h =
      let more = ids_sound ts h.1 in
      either_nodes (has_id defs t) (inline (Some t) [] (id_field p) p (ids_on defs p ts)) (ids_on defs p ts) (h.0, tt, tt, id_sound, more) more

  record_sound : (t : Text) (s : Sels) → SoundNodes (record_additions defs t s p)
  record_sound t s =
      nodes_appended (id_additions defs t s p) (typename_additions defs t s p)
      (either_nodes (has_id defs t) (cond (has_bare (codes "id") s) end (id_field p)) (cond (is_abstract defs t) (ids_on defs p (possible defs t)) end)
      (either_nodes (has_bare (codes "id") s) end (id_field p) tt id_sound)
      (either_nodes (is_abstract defs t) (ids_on defs p (possible defs t)) end (ids_sound (possible defs t) (names t)) tt))
      (either_nodes (is_abstract defs t && not (has_bare (codes "__typename") s)) (typename_field p) end typename_sound tt)

  or_typename_sound : (s : Nodes) → SoundNodes s → SoundNodes (or_typename s p)
  or_typename_sound end h = typename_sound
  or_typename_sound (field r n xs ds c of s q rest) h = h
  or_typename_sound (inline o ds s q rest) h = h

  leaf_sound : (of n : Text) → IsName n → SoundNodes (leaf_on defs of p n)
  leaf_sound of n h = (h, h, tt, tt, tt, tt)

  node_sound : (edge : Text) → SoundNodes (node_field defs edge p)
  node_sound edge =
      let t : Text = base_of (type_on defs edge (codes "node")) in
      (refl, refl, tt, tt, or_typename_sound (record_additions defs t sels.end p) (record_sound t sels.end), tt)

  edges_sound : (t : Text) → SoundNodes (edges_field defs t p)
  edges_sound t =
      let edge : Text = base_of (type_on defs t (codes "edges")) in (
        refl,
        refl,
        tt,
        tt,
        nodes_appended (leaf_on defs edge p (codes "cursor")) (nodes_append (node_field defs edge p) (record_additions defs edge sels.end p)) (leaf_sound edge (codes "cursor") refl)
            (nodes_appended (node_field defs edge p) (record_additions defs edge sels.end p) (node_sound edge) (record_sound edge sels.end)),
        tt,
      )

  page_info_sound : (t : Text) → SoundNodes (page_info_field defs t p)
  page_info_sound t =
      let info : Text = base_of (type_on defs t (codes "pageInfo")) in
      let more : Nodes = record_additions defs info sels.end p in
      let four : Nodes = nodes_append (leaf_on defs info p (codes "startCursor")) more in
      let three : Nodes = nodes_append (leaf_on defs info p (codes "hasPreviousPage")) four in
      let two : Nodes = nodes_append (leaf_on defs info p (codes "hasNextPage")) three in (
        refl,
        refl,
        tt,
        tt,
        nodes_appended (leaf_on defs info p (codes "endCursor")) two (leaf_sound info (codes "endCursor") refl)
            (nodes_appended (leaf_on defs info p (codes "hasNextPage")) three (leaf_sound info (codes "hasNextPage") refl)
            (nodes_appended (leaf_on defs info p (codes "hasPreviousPage")) four (leaf_sound info (codes "hasPreviousPage") refl)
            (nodes_appended (leaf_on defs info p (codes "startCursor")) more (leaf_sound info (codes "startCursor") refl) (record_sound info sels.end)))),
        tt,
      )

  some_additions : (c : Bool) (t : Text) (s : Sels) → SoundNodes (nodes_append (cond c (connection_additions defs t p) end) (record_additions defs t s p))
  some_additions c t s =
      nodes_appended (cond c (connection_additions defs t p) end) (record_additions defs t s p)
      (either_nodes c (connection_additions defs t p) end (nodes_appended (edges_field defs t p) (page_info_field defs t p) (edges_sound t) (page_info_sound t)) tt)
      (record_sound t s)

  pub additions_sound : (c : Bool) (t : Text) (s : Sels) → SoundNodes (additions defs c t s p)
  additions_sound c t sels.end = tt
  additions_sound c t (sels.field a n xs ds s rest) = some_additions c t (sels.field a n xs ds s rest)
  additions_sound c t (sels.spread n ds rest) = some_additions c t (sels.spread n ds rest)
  additions_sound c t (sels.inline o ds s rest) = some_additions c t (sels.inline o ds s rest)

-- ---- the walk

abbrev pub Enter : Type 0
Enter = (from : ℕ) → Text → List Directive → Nodes → Nodes

-- what a spread becomes is not empty, and sound
abbrev pub Enters : Enter → Text → Type 0
Enters enter n = (from : ℕ) (ds : List Directive) (rest : Nodes) → SoundDirectives ds → SoundNodes rest → SomeNode (enter from n ds rest) × SoundNodes (enter from n ds rest)

-- sound nodes, and some where there are selections
abbrev pub Sound : Sels → Nodes → Type 0
Sound s ns = SoundNodes ns × (SomeSelection s → SomeNode ns)

key_name : (a : Option Text) (n : Text) → IfSome a IsName → IsName n → IsName (response_key a n)
key_name None n h k = k
key_name (Some a) n h k = h

module _ (p : Project) (names : PossibleNames p.defs) where
  module _ (enter : Enter) (scope : Scope) (given : SoundScope scope) where
    walked : (from : ℕ) (around : Option Text) (s : Sels) → SoundSelections s → AllSpreads (Enters enter) s → Sound s (expansion_with enter p scope from around s)
    walked from around sels.end h e = (tt, λ some. some)
    walked from around (sels.field a n xs ds s rest) h e =
        let inside : ℕ = from + head_nodes a + arguments_nodes xs + directives_nodes ds in
        let i = walked inside (below p.defs around n) s h.4 e.0 in
        let r = walked (inside + selections_nodes s) around rest h.5 e.1 in
        let more = additions_sound p.defs names (p.place from) (is_some (connection_among ds)) (base_of (type_or (field_type p.defs around n))) s in (
          (
            key_name a n h.0 h.1,
            h.1,
            arguments_put scope given xs h.2,
            directives_shown scope given is_printed ds h.3,
            nodes_appended (expansion_with enter p scope inside (below p.defs around n) s)
                (additions p.defs (is_some (connection_among ds)) (base_of (type_or (field_type p.defs around n))) s (p.place from)) i.0 more,
            r.0,
          ),
          λ some. tt,
        )
    walked from around (sels.spread n ds rest) h e =
        let r = walked (from + 2 + directives_nodes ds) around rest h.1 e.1 in
        let x = e.0 from ds (expansion_with enter p scope (from + 2 + directives_nodes ds) around rest) h.0 r.0 in
        (x.1, λ some. x.0)
    walked from around (sels.inline o ds s rest) h e =
        let inside : ℕ = from + 1 + optional_name_nodes o + directives_nodes ds in
        let i = walked inside (condition_or around o) s h.3 e.0 in
        let r = walked (inside + selections_nodes s) around rest h.4 e.1 in
        ((h.0, directives_shown scope given is_printed ds h.1, i.1 h.2, i.0, r.0), λ some. tt)

  abbrev inside : ℕ → Scope → List Directive → FragmentAt → Nodes
  inside k scope ds f = expansion k p (scope_at_spread scope ds f) (selections_from f) (Some f.on.name) f.selections

  abbrev entering : ℕ → Scope → Enter
  entering k scope at n ds rest = enter_with (inside k scope ds) p scope at (fragment_named p.fragments n) ds rest

  module _ (fragments : AllByRecursion SoundFragment p.fragments) where
    -- a spread whose fragment is expanded so
    entered : (k : ℕ) (scope : Scope) → SoundScope scope
        → ((inner : Scope) → SoundScope inner → (from : ℕ) (around : Option Text) (s : Sels) → SoundSelections s → Bounded p.fragments k s → Sound s (expansion k p inner from around s))
        → (n : Text) (f : FragmentAt) → fragment_named p.fragments n ≡ Some f → Bounded p.fragments k f.selections → Enters (entering k scope) n
    entered k scope given below n f is b from ds rest d r =
        let s = (all_found SoundFragment p.fragments n f fragments is).0 in
        let i = below (scope_at_spread scope ds f) (spread_sound scope ds f given d s) (selections_from f) (Some f.on.name) f.selections s.set.1 b in
        subst (λ o. SomeNode (enter_with (inside k scope ds) p scope from o ds rest) × SoundNodes (enter_with (inside k scope ds) p scope from o ds rest)) (sym is)
        (tt, (s.on, directives_shown scope given is_condition ds d, i.1 s.set.0, i.0, r))

    pub expanded : (k : ℕ) (scope : Scope) → SoundScope scope → (from : ℕ) (around : Option Text) (s : Sels) → SoundSelections s → Bounded p.fragments k s
        → Sound s (expansion k p scope from around s)
    expanded zero scope given from around s h b =
        walked (λ at n ds rest. rest) scope given from around s h (spreads_map (λ n. ⊥) (Enters (λ at n ds rest. rest)) (λ n none. absurd none) s b)
    expanded (suc k) scope given from around s h b =
        walked (entering k scope) scope given from around s h
        (spreads_map (λ n. (f : FragmentAt) × (fragment_named p.fragments n ≡ Some f) × Bounded p.fragments k f.selections) (Enters (entering k scope))
        (λ n found. entered k scope given (λ inner i at around s h b. expanded k inner i at around s h b) n found.0 found.1 found.2) s b)
