-- The fields that are added have no arguments and no directives, and are the same whatever place they get.
use Rattle.std.proofs.Common.{◌≡◌, Bool, true, false, cond, not, ◌&&◌, List, [], ◌∷◌, codes, Some, refl, sym, ap, subst, ◌∙◌}
use Rattle.plan_ir.specs.gql_ast.Sels as sels
use Rattle.plan_ir.specs.gql_ast.Sels.{Sels, sels_append}
use Rattle.plan_ir.specs.gql_ast.Ty.{Ty}
use Rattle.plan_ir.specs.gql_ast.declared.place.FilePlace.{FilePlace}
use Rattle.plan_ir.specs.Additions.{additions, bare_field, connection_additions, edges_field, has_bare, id_additions, id_field, ids_on, is_abstract, leaf_on, node_field, or_typename, page_info_field, record_additions, type_on, typename_additions, typename_field}
use Rattle.plan_ir.specs.Nodes.{Nodes, end, field, inline, nodes_append}
use Rattle.plan_collect.specs.Printed.{alias_of, printed_arguments, printed_directives, printed_selections}
use Rattle.plan_ir.specs.schema_tables.Types.{Text, Defs, base_of, has_id, possible}

-- no arguments, no directives, no spreads
abbrev pub IsBare : Sels → Type 0
IsBare sels.end = Unit {0}
IsBare (sels.field a n xs ds s rest) = (xs ≡ []) × (ds ≡ []) × IsBare s × IsBare rest
IsBare (sels.spread n ds rest) = ⊥
IsBare (sels.inline o ds s rest) = (ds ≡ []) × IsBare s × IsBare rest

bare-append : (s t : Sels) → IsBare s → IsBare t → IsBare (sels_append s t)
bare-append sels.end t a b = b
bare-append (sels.field al n xs ds s rest) t a b = (a.0, a.1, a.2, bare-append rest t a.3 b)
bare-append (sels.spread n ds rest) t a b = absurd a
bare-append (sels.inline o ds s rest) t a b = (a.0, a.1, bare-append rest t a.2 b)

pub printed-append : (a b : Nodes) → printed_selections (nodes_append a b) ≡ sels_append (printed_selections a) (printed_selections b)
printed-append end b = refl
printed-append (field r n xs ds c of s p rest) b =
    ap (λ z. sels.field (alias_of r n) n (printed_arguments xs) (printed_directives ds) (printed_selections s) z) (printed-append rest b)
printed-append (inline o ds s p rest) b = ap (λ z. sels.inline o (printed_directives ds) (printed_selections s) z) (printed-append rest b)

-- two lists of nodes that are the same but for their places, and bare
pub record Added (x y : Nodes) : Type 0 where
  pub same : printed_selections x ≡ printed_selections y
  pub bare : IsBare (printed_selections y)

pub nothing_added : Added end end
nothing_added = record { same = refl; bare = tt }

added-append : (a b c d : Nodes) → Added a b → Added c d → Added (nodes_append a c) (nodes_append b d)
added-append a b c d h k = record {
  same = printed-append a c ∙ (λ i. sels_append (h.same i) (k.same i)) ∙ sym (printed-append b d);
  bare = subst IsBare (sym (printed-append b d)) (bare-append (printed_selections b) (printed_selections d) h.bare k.bare);
}

added-cond : (b : Bool) (x y z w : Nodes) → Added x y → Added z w → Added (cond b x z) (cond b y w)
added-cond true x y z w h k = h
added-cond false x y z w h k = k

added-field : (n : Text) (t : Ty) (x y : Nodes) (p q : FilePlace) → Added x y → Added (bare_field n t x p) (bare_field n t y q)
added-field n t x y p q h = record {
  same = ap (λ s. sels.field (alias_of n n) n [] [] s sels.end) h.same;
  bare = (refl, refl, h.bare, tt);
}

added-inline : (t : Text) (x y z w : Nodes) (p q : FilePlace) → Added x y → Added z w → Added (inline (Some t) [] x p z) (inline (Some t) [] y q w)
added-inline t x y z w p q h k = record {
  same = λ i. sels.inline (Some t) [] (h.same i) (k.same i);
  bare = (refl, h.bare, k.bare);
}

-- ---- each of the additions

module _ (defs : Defs) (p q : FilePlace) where
  added-id : Added (id_field p) (id_field q)
  added-id = added-field _ _ end end p q nothing_added

  added-typename : Added (typename_field p) (typename_field q)
  added-typename = added-field _ _ end end p q nothing_added

  added-ids_on : (ts : List Text) → Added (ids_on defs p ts) (ids_on defs q ts)
  added-ids_on [] = nothing_added
  added-ids_on (t ∷ ts) =
      added-cond (has_id defs t) (inline (Some t) [] (id_field p) p (ids_on defs p ts)) (inline (Some t) [] (id_field q) q (ids_on defs q ts)) (ids_on defs p ts) (ids_on defs q ts)
      (added-inline t (id_field p) (id_field q) (ids_on defs p ts) (ids_on defs q ts) p q added-id (added-ids_on ts)) (added-ids_on ts)

  added-id_additions : (of : Text) (s : Sels) → Added (id_additions defs of s p) (id_additions defs of s q)
  added-id_additions of s =
      added-cond (has_id defs of) (cond (has_bare (codes "id") s) end (id_field p)) (cond (has_bare (codes "id") s) end (id_field q))
      (cond (is_abstract defs of) (ids_on defs p (possible defs of)) end) (cond (is_abstract defs of) (ids_on defs q (possible defs of)) end)
      (added-cond (has_bare (codes "id") s) end end (id_field p) (id_field q) nothing_added added-id)
      (added-cond (is_abstract defs of) (ids_on defs p (possible defs of)) (ids_on defs q (possible defs of)) end end (added-ids_on (possible defs of)) nothing_added)

  added-typename_additions : (of : Text) (s : Sels) → Added (typename_additions defs of s p) (typename_additions defs of s q)
  added-typename_additions of s =
      added-cond (is_abstract defs of && not (has_bare (codes "__typename") s)) (typename_field p) (typename_field q) end end added-typename nothing_added

  added-record : (of : Text) (s : Sels) → Added (record_additions defs of s p) (record_additions defs of s q)
  added-record of s =
      added-append (id_additions defs of s p) (id_additions defs of s q) (typename_additions defs of s p) (typename_additions defs of s q)
      (added-id_additions of s) (added-typename_additions of s)

  added-or_typename : (x y : Nodes) → Added x y → Added (or_typename x p) (or_typename y q)
  added-or_typename end end h = added-typename
  added-or_typename end (field r n xs ds c of s o rest) h = absurd (apart h.same)
    where
      apart : sels.end ≡ printed_selections (field r n xs ds c of s o rest) → ⊥
      apart e = cc
  added-or_typename end (inline on ds s o rest) h = absurd (apart h.same)
    where
      apart : sels.end ≡ printed_selections (inline on ds s o rest) → ⊥
      apart e = cc
  added-or_typename (field r n xs ds c of s o rest) end h = absurd (apart h.same)
    where
      apart : printed_selections (field r n xs ds c of s o rest) ≡ sels.end → ⊥
      apart e = cc
  added-or_typename (inline on ds s o rest) end h = absurd (apart h.same)
    where
      apart : printed_selections (inline on ds s o rest) ≡ sels.end → ⊥
      apart e = cc
  added-or_typename (field r n xs ds c of s o rest) (field r' n' xs' ds' c' of' s' o' rest') h = h
  added-or_typename (field r n xs ds c of s o rest) (inline on' ds' s' o' rest') h = h
  added-or_typename (inline on ds s o rest) (field r' n' xs' ds' c' of' s' o' rest') h = h
  added-or_typename (inline on ds s o rest) (inline on' ds' s' o' rest') h = h

  added-leaf : (of n : Text) → Added (leaf_on defs of p n) (leaf_on defs of q n)
  added-leaf of n = added-field n (type_on defs of n) end end p q nothing_added

  added-node : (edge : Text) → Added (node_field defs edge p) (node_field defs edge q)
  added-node edge =
      let node : Text = base_of (type_on defs edge (codes "node")) in
      added-field (codes "node") (type_on defs edge (codes "node")) (or_typename (record_additions defs node sels.end p) p) (or_typename (record_additions defs node sels.end q) q) p q
      (added-or_typename (record_additions defs node sels.end p) (record_additions defs node sels.end q) (added-record node sels.end))

  added-edges : (t : Text) → Added (edges_field defs t p) (edges_field defs t q)
  added-edges t =
      let edge : Text = base_of (type_on defs t (codes "edges")) in
      added-field (codes "edges") (type_on defs t (codes "edges")) _ _ p q
      (added-append (leaf_on defs edge p (codes "cursor")) (leaf_on defs edge q (codes "cursor")) _ _ (added-leaf edge (codes "cursor"))
      (added-append (node_field defs edge p) (node_field defs edge q) _ _ (added-node edge) (added-record edge sels.end)))

  added-page_info : (t : Text) → Added (page_info_field defs t p) (page_info_field defs t q)
  added-page_info t =
      let info : Text = base_of (type_on defs t (codes "pageInfo")) in
      added-field (codes "pageInfo") (type_on defs t (codes "pageInfo")) _ _ p q
      (added-append (leaf_on defs info p (codes "endCursor")) (leaf_on defs info q (codes "endCursor")) _ _ (added-leaf info (codes "endCursor"))
      (added-append (leaf_on defs info p (codes "hasNextPage")) (leaf_on defs info q (codes "hasNextPage")) _ _ (added-leaf info (codes "hasNextPage"))
      (added-append (leaf_on defs info p (codes "hasPreviousPage")) (leaf_on defs info q (codes "hasPreviousPage")) _ _ (added-leaf info (codes "hasPreviousPage"))
      (added-append (leaf_on defs info p (codes "startCursor")) (leaf_on defs info q (codes "startCursor")) _ _ (added-leaf info (codes "startCursor")) (added-record info sels.end)))))

  added-connection : (t : Text) → Added (connection_additions defs t p) (connection_additions defs t q)
  added-connection t = added-append (edges_field defs t p) (edges_field defs t q) (page_info_field defs t p) (page_info_field defs t q) (added-edges t) (added-page_info t)

  some_added : (c : Bool) (of : Text) (s : Sels)
      → Added (nodes_append (cond c (connection_additions defs of p) end) (record_additions defs of s p)) (nodes_append (cond c (connection_additions defs of q) end) (record_additions defs of s q))
  some_added c of s =
      added-append (cond c (connection_additions defs of p) end) (cond c (connection_additions defs of q) end) (record_additions defs of s p) (record_additions defs of s q)
      (added-cond c (connection_additions defs of p) (connection_additions defs of q) end end (added-connection of) nothing_added) (added-record of s)

  pub all_added : (c : Bool) (of : Text) (s : Sels) → Added (additions defs c of s p) (additions defs c of s q)
  all_added c of sels.end = nothing_added
  all_added c of (sels.field a n xs ds s rest) = some_added c of (sels.field a n xs ds s rest)
  all_added c of (sels.spread n ds rest) = some_added c of (sels.spread n ds rest)
  all_added c of (sels.inline o ds s rest) = some_added c of (sels.inline o ds s rest)
