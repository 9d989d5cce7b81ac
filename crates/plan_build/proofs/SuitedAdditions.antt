-- The fields that are added suit each object type.
use Rattle.std.proofs.Common.{◌≡◌, Bool, true, false, true≢false, cond, not, ◌&&◌, List, [], ◌∷◌, codes, Option, Some, None, option_map, is_some, refl, ap, sym, subst, ◌∙◌}
use Rattle.std.specs.List.{list_all}
use Rattle.plan_ir.specs.gql_ast.Sels as sels
use Rattle.plan_ir.specs.gql_ast.Sels.{Sels}
use Rattle.plan_ir.specs.gql_ast.Ty as ty
use Rattle.plan_ir.specs.gql_ast.Ty.{Ty}
use Rattle.plan_ir.specs.gql_ast.TypeView.{ty_of}
use Rattle.plan_ir.specs.gql_ast.declared.member.FieldTree.{FieldTree}
use Rattle.plan_ir.specs.gql_ast.declared.place.FilePlace.{FilePlace}
use Rattle.plan_ir.proofs.gql_graph_laws.TextSteps.{same_text}
use Rattle.plan_ir.specs.gql_plain.Order.{has_text}
use Rattle.plan_build.proofs.Covariance.{Within, covariant, narrow_within, possible_in_object}
use Rattle.plan_build.proofs.CovarianceLists.{first_true, passes_each}
use Rattle.plan_build.proofs.CovarianceRules.{SchemaMeets}
use Rattle.plan_build.specs.Meeting.{IsConnectionType, base_on}
use Rattle.plan_build.specs.Suited.{FieldSuits, Suited, type_inside}
use Rattle.plan_ir.specs.Additions.{additions, bare_field, connection_additions, edges_field, has_bare, id_additions, id_field, ids_on, is_abstract, leaf_on, node_field, or_typename, page_info_field, record_additions, type_on, type_or, typename_additions, typename_field}
use Rattle.plan_ir.specs.Nodes.{Nodes, end, field, inline, nodes_append}
use Rattle.plan_ir.specs.schema_rules.Rules.{is_object}
use Rattle.plan_ir.specs.schema_tables.Types.{Text, Defs, base_of, field_on, has_id, is_empty, is_id_field, is_id_type, possible}
use Rattle.plan_ir.specs.schema_types.Sites.{field_type}

pub nodes_appended : (defs : Defs) (around t : Text) (s more : Nodes) → Suited defs around t s → Suited defs around t more → Suited defs around t (nodes_append s more)
nodes_appended defs around t end more h k = k
nodes_appended defs around t (field r n xs ds c of s p rest) more h k = (h.0, h.1, nodes_appended defs around t rest more h.2 k)
nodes_appended defs around t (inline o ds s p rest) more h k = (h.0, nodes_appended defs around t rest more h.1 k)

either_nodes : (defs : Defs) (around t : Text) (b : Bool) (x y : Nodes) → (b ≡ true → Suited defs around t x) → Suited defs around t y → Suited defs around t (cond b x y)
either_nodes defs around t true x y h k = h refl
either_nodes defs around t false x y h k = k

-- the type inside an inline fragment lies within the fragment's
pub inside_on : (defs : Defs) (t o : Text) → Within defs (type_inside defs t (Some o)) o
inside_on defs t o = on (list_all (λ T. has_text (possible defs o) T) (possible defs t)) refl
  where
    on : (b : Bool) → list_all (λ T. has_text (possible defs o) T) (possible defs t) ≡ b → Within defs (cond b t o) o
    on true e T h = passes_each (λ T. has_text (possible defs o) T) (possible defs t) T e h
    on false e T h = h

-- the type of an id
id_there : (defs : Defs) (o : Text) → has_id defs o ≡ true → (is_some (field_type defs (Some o) (codes "id")) ≡ true) × (base_on defs o (codes "id") ≡ codes "ID")
id_there defs o e = on (field_on defs o (codes "id")) refl e
  where
    named_id : (t : Ty) → is_id_type t ≡ true → base_of t ≡ codes "ID"
    named_id (ty.named n) f = absurd (true≢false (sym f))
    named_id (ty.list t) f = absurd (true≢false (sym f))
    named_id (ty.non_null (ty.named n)) f = same_text n (codes "ID") f
    named_id (ty.non_null (ty.list t)) f = absurd (true≢false (sym f))
    named_id (ty.non_null (ty.non_null t)) f = absurd (true≢false (sym f))

    on : (f : Option FieldTree) → field_on defs o (codes "id") ≡ f → is_id_field f ≡ true
        → (is_some (field_type defs (Some o) (codes "id")) ≡ true) × (base_on defs o (codes "id") ≡ codes "ID")
    on None d i = absurd (true≢false (sym i))
    on (Some f) d i = (
      ap (λ (x : Option FieldTree). is_some (option_map (λ (g : FieldTree). ty_of g.of) x)) d,
      ap (λ (x : Option FieldTree). base_of (type_or (option_map (λ (g : FieldTree). ty_of g.of) x))) d ∙ named_id (ty_of f.of) (first_true (is_id_type (ty_of f.of)) (is_empty f.arguments) i),
    )

module _ (defs : Defs) (p : FilePlace) where
  typename_suits : (around t : Text) → Suited defs around t (typename_field p)
  typename_suits around t =
      (λ T h. record { bare = λ e. refl; plain = λ e. refl; leaf_is_plain = λ e. refl; within = λ e. absurd (true≢false e) }, tt, tt)

  or_typename_suits : (around t : Text) (s : Nodes) → Suited defs around t s → Suited defs around t (or_typename s p)
  or_typename_suits around t end h = typename_suits around t
  or_typename_suits around t (field r n xs ds c of s q rest) h = h
  or_typename_suits around t (inline o ds s q rest) h = h

  module _ (meets : SchemaMeets defs) where
    -- ---- what every record has

    -- where the type around may be no more than one that has an id
    id_suits : (o around t : Text) → has_id defs o ≡ true → Within defs t o → Suited defs around t (id_field p)
    id_suits o around t e within =
        let r = id_there defs o e in (
          λ T h. record {
            bare = λ f. refl;
            plain = λ f. refl;
            leaf_is_plain = λ f. refl;
            within = λ off U k. subst (λ (u : Text). has_text (possible defs u) U ≡ true) r.1
                (narrow_within defs meets (base_on defs T (codes "id")) (base_on defs o (codes "id")) (covariant defs meets o T (codes "id") (within T h) refl r.0) U k);
          },
          tt,
          tt,
        )

    ids_suit : (around t : Text) (ts : List Text) → Suited defs around t (ids_on defs p ts)
    ids_suit around t [] = tt
    ids_suit around t (o ∷ os) =
        let more = ids_suit around t os in
        either_nodes defs around t (has_id defs o) (inline (Some o) [] (id_field p) p (ids_on defs p os)) (ids_on defs p os)
        (λ e. (id_suits o o (type_inside defs t (Some o)) e (inside_on defs t o), more)) more

    record_suits : (around t of : Text) (s : Sels) → Within defs t of → Suited defs around t (record_additions defs of s p)
    record_suits around t of s within =
        nodes_appended defs around t (id_additions defs of s p) (typename_additions defs of s p)
        (either_nodes defs around t (has_id defs of) (cond (has_bare (codes "id") s) end (id_field p)) (cond (is_abstract defs of) (ids_on defs p (possible defs of)) end)
        (λ e. either_nodes defs around t (has_bare (codes "id") s) end (id_field p) (λ f. tt) (id_suits of around t e within))
        (either_nodes defs around t (is_abstract defs of) (ids_on defs p (possible defs of)) end (λ e. ids_suit around t (possible defs of)) tt))
        (either_nodes defs around t (is_abstract defs of && not (has_bare (codes "__typename") s)) (typename_field p) end (λ e. typename_suits around t) tt)

    -- ---- connections

    -- a field that is added to the set of an object type
    on_object : (o t n : Text) (s : Nodes) → is_object defs o ≡ true → Within defs t o → Suited defs (base_on defs o n) (base_on defs o n) s
        → Suited defs o t (bare_field n (type_on defs o n) s p)
    on_object o t n s object within h = (
      λ T k. subst (λ (u : Text). FieldSuits defs u n [] None (type_on defs o n))
          (sym (possible_in_object defs meets o T object (within T k)))
          (record { bare = λ e. refl; plain = λ e. refl; leaf_is_plain = λ e. refl; within = λ e U j. j }),
      h,
      tt,
    )

    leaf_suits : (o t n : Text) → is_object defs o ≡ true → Within defs t o → Suited defs o t (leaf_on defs o p n)
    leaf_suits o t n object within = on_object o t n end object within tt

    node_suits : (edge : Text) → is_object defs edge ≡ true → Suited defs edge edge (node_field defs edge p)
    node_suits edge object =
        let node : Text = base_on defs edge (codes "node") in
        on_object edge edge (codes "node") (or_typename (record_additions defs node sels.end p) p) object (λ T h. h)
        (or_typename_suits node node (record_additions defs node sels.end p) (record_suits node node node sels.end (λ T h. h)))

    edges_suit : (o t : Text) → IsConnectionType defs o → Within defs t o → Suited defs o t (edges_field defs o p)
    edges_suit o t c within =
        let edge : Text = base_on defs o (codes "edges") in
        let more : Nodes = record_additions defs edge sels.end p in
        on_object o t (codes "edges") (nodes_append (leaf_on defs edge p (codes "cursor")) (nodes_append (node_field defs edge p) more)) c.object within
        (nodes_appended defs edge edge (leaf_on defs edge p (codes "cursor")) (nodes_append (node_field defs edge p) more) (leaf_suits edge edge (codes "cursor") c.edge (λ T h. h))
        (nodes_appended defs edge edge (node_field defs edge p) more (node_suits edge c.edge) (record_suits edge edge edge sels.end (λ T h. h))))

    page_info_suits : (o t : Text) → IsConnectionType defs o → Within defs t o → Suited defs o t (page_info_field defs o p)
    page_info_suits o t c within =
        let info : Text = base_on defs o (codes "pageInfo") in
        let more : Nodes = record_additions defs info sels.end p in
        let four : Nodes = nodes_append (leaf_on defs info p (codes "startCursor")) more in
        let three : Nodes = nodes_append (leaf_on defs info p (codes "hasPreviousPage")) four in
        let two : Nodes = nodes_append (leaf_on defs info p (codes "hasNextPage")) three in
        on_object o t (codes "pageInfo") (nodes_append (leaf_on defs info p (codes "endCursor")) two) c.object within
        (nodes_appended defs info info (leaf_on defs info p (codes "endCursor")) two (leaf_suits info info (codes "endCursor") c.page (λ T h. h))
        (nodes_appended defs info info (leaf_on defs info p (codes "hasNextPage")) three (leaf_suits info info (codes "hasNextPage") c.page (λ T h. h))
        (nodes_appended defs info info (leaf_on defs info p (codes "hasPreviousPage")) four (leaf_suits info info (codes "hasPreviousPage") c.page (λ T h. h))
        (nodes_appended defs info info (leaf_on defs info p (codes "startCursor")) more (leaf_suits info info (codes "startCursor") c.page (λ T h. h)) (record_suits info info info sels.end (λ T h. h))))))

    some_suit : (c : Bool) (o t : Text) (s : Sels) → (c ≡ true → IsConnectionType defs o) → Within defs t o
        → Suited defs o t (nodes_append (cond c (connection_additions defs o p) end) (record_additions defs o s p))
    some_suit c o t s connected within =
        nodes_appended defs o t (cond c (connection_additions defs o p) end) (record_additions defs o s p)
        (either_nodes defs o t c (connection_additions defs o p) end
        (λ e. nodes_appended defs o t (edges_field defs o p) (page_info_field defs o p) (edges_suit o t (connected e) within) (page_info_suits o t (connected e) within)) tt)
        (record_suits o t o s within)

    -- to the set of a field of the type; where it is a connection, the type is that of one
    pub additions_suit : (c : Bool) (o t : Text) (s : Sels) → (c ≡ true → IsConnectionType defs o) → Within defs t o → Suited defs o t (additions defs c o s p)
    additions_suit c o t sels.end connected within = tt
    additions_suit c o t (sels.field a n xs ds s rest) connected within = some_suit c o t (sels.field a n xs ds s rest) connected within
    additions_suit c o t (sels.spread n ds rest) connected within = some_suit c o t (sels.spread n ds rest) connected within
    additions_suit c o t (sels.inline on ds s rest) connected within = some_suit c o t (sels.inline on ds s rest) connected within
