-- The fields that are added are no connections, and those of a connection ask for its page information.
use Rattle.std.proofs.Common.{◌≡◌, Bool, true, false, true≢false, cond, not, ◌&&◌, List, [], ◌∷◌, codes, Some, is_some, bytes_eq, refl, ap, sym, ◌∙◌}
use Rattle.std.proofs.lemmas.Bool.{and_from, and_parts, or_right}
use Rattle.plan_ir.specs.gql_ast.Sels as sels
use Rattle.plan_ir.specs.gql_ast.Sels.{Sels}
use Rattle.plan_ir.specs.gql_ast.Ty.{Ty}
use Rattle.plan_ir.specs.gql_ast.declared.place.FilePlace.{FilePlace}
use Rattle.plan_ir.specs.Additions.{additions, bare_field, connection_additions, edges_field, has_bare, id_additions, id_field, ids_on, is_abstract, leaf_on, node_field, or_typename, page_info_field, record_additions, type_on, typename_additions, typename_field}
use Rattle.plan_ir.specs.Nodes.{Nodes, end, field, inline, nodes_append}
use Rattle.plan_ir.specs.schema_tables.Types.{Text, Defs, base_of, has_id, is_empty, possible}
use Rattle.plan_ir.specs.schema_types.Sites.{is_set}
use Rattle.plan_build.specs.Connected.{Connected, asks_page}
use Rattle.plan_build.specs.Meeting.{base_on}
use Rattle.plan_build.specs.Suited.{type_inside}

-- no field is a connection, also of inner sets
abbrev pub is_plain : Nodes → Bool
is_plain end = true
is_plain (field r n xs ds c of s p rest) = not (is_some c) && (is_plain s && is_plain rest)
is_plain (inline o ds s p rest) = is_plain s && is_plain rest

no_connection : (b : Bool) → not b ≡ true → b ≡ true → ⊥
no_connection true e f = true≢false (sym e)
no_connection false e f = true≢false (sym f)

pub plain_connects : (defs : Defs) (s : Nodes) (t : Text) → is_plain s ≡ true → Connected defs t s
plain_connects defs end t e = tt
plain_connects defs (field r n xs ds c of s p rest) t e =
    let first = and_parts (not (is_some c)) (is_plain s && is_plain rest) e in
    let more = and_parts (is_plain s) (is_plain rest) first.1 in
    (λ i. absurd (no_connection (is_some c) first.0 i), plain_connects defs s (base_of of) more.0, plain_connects defs rest t more.1)
plain_connects defs (inline o ds s p rest) t e =
    let more = and_parts (is_plain s) (is_plain rest) e in
    (plain_connects defs s (type_inside defs t o) more.0, plain_connects defs rest t more.1)

-- ---- what is added is plain

plain_append : (a b : Nodes) → is_plain a ≡ true → is_plain b ≡ true → is_plain (nodes_append a b) ≡ true
plain_append end b e f = f
plain_append (field r n xs ds c of s p rest) b e f =
    let first = and_parts (not (is_some c)) (is_plain s && is_plain rest) e in
    let more = and_parts (is_plain s) (is_plain rest) first.1 in
    and_from (not (is_some c)) (is_plain s && is_plain (nodes_append rest b)) first.0
    (and_from (is_plain s) (is_plain (nodes_append rest b)) more.0 (plain_append rest b more.1 f))
plain_append (inline o ds s p rest) b e f =
    let more = and_parts (is_plain s) (is_plain rest) e in
    and_from (is_plain s) (is_plain (nodes_append rest b)) more.0 (plain_append rest b more.1 f)

plain_either : (b : Bool) (x y : Nodes) → is_plain x ≡ true → is_plain y ≡ true → is_plain (cond b x y) ≡ true
plain_either true x y e f = e
plain_either false x y e f = f

plain_bare : (n : Text) (t : Ty) (s : Nodes) (p : FilePlace) → is_plain s ≡ true → is_plain (bare_field n t s p) ≡ true
plain_bare n t s p e = and_from (is_plain s) true e refl

plain_or_typename : (s : Nodes) (p : FilePlace) → is_plain s ≡ true → is_plain (or_typename s p) ≡ true
plain_or_typename end p e = refl
plain_or_typename (field r n xs ds c of s q rest) p e = e
plain_or_typename (inline o ds s q rest) p e = e

module _ (defs : Defs) (p : FilePlace) where
  plain_ids : (ts : List Text) → is_plain (ids_on defs p ts) ≡ true
  plain_ids [] = refl
  plain_ids (t ∷ ts) = plain_either (has_id defs t) (inline (Some t) [] (id_field p) p (ids_on defs p ts)) (ids_on defs p ts) (plain_ids ts) (plain_ids ts)

  plain_record : (of : Text) (s : Sels) → is_plain (record_additions defs of s p) ≡ true
  plain_record of s =
      plain_append (id_additions defs of s p) (typename_additions defs of s p)
      (plain_either (has_id defs of) (cond (has_bare (codes "id") s) end (id_field p)) (cond (is_abstract defs of) (ids_on defs p (possible defs of)) end)
      (plain_either (has_bare (codes "id") s) end (id_field p) refl refl)
      (plain_either (is_abstract defs of) (ids_on defs p (possible defs of)) end (plain_ids (possible defs of)) refl))
      (plain_either (is_abstract defs of && not (has_bare (codes "__typename") s)) (typename_field p) end refl refl)

  plain_leaf : (of n : Text) (more : Nodes) → is_plain more ≡ true → is_plain (nodes_append (leaf_on defs of p n) more) ≡ true
  plain_leaf of n more e = plain_append (leaf_on defs of p n) more refl e

  plain_edges : (o : Text) → is_plain (edges_field defs o p) ≡ true
  plain_edges o =
      let edge : Text = base_on defs o (codes "edges") in
      let node : Text = base_on defs edge (codes "node") in
      let inner : Nodes = or_typename (record_additions defs node sels.end p) p in
      plain_bare (codes "edges") (type_on defs o (codes "edges")) (nodes_append (leaf_on defs edge p (codes "cursor")) (nodes_append (node_field defs edge p) (record_additions defs edge sels.end p))) p
      (plain_leaf edge (codes "cursor") (nodes_append (node_field defs edge p) (record_additions defs edge sels.end p))
      (plain_append (node_field defs edge p) (record_additions defs edge sels.end p)
      (plain_bare (codes "node") (type_on defs edge (codes "node")) inner p (plain_or_typename (record_additions defs node sels.end p) p (plain_record node sels.end)))
      (plain_record edge sels.end)))

  plain_page : (o : Text) → is_plain (page_info_field defs o p) ≡ true
  plain_page o =
      let info : Text = base_on defs o (codes "pageInfo") in
      let more : Nodes = record_additions defs info sels.end p in
      let four : Nodes = nodes_append (leaf_on defs info p (codes "startCursor")) more in
      let three : Nodes = nodes_append (leaf_on defs info p (codes "hasPreviousPage")) four in
      let two : Nodes = nodes_append (leaf_on defs info p (codes "hasNextPage")) three in
      plain_bare (codes "pageInfo") (type_on defs o (codes "pageInfo")) (nodes_append (leaf_on defs info p (codes "endCursor")) two) p
      (plain_leaf info (codes "endCursor") two (plain_leaf info (codes "hasNextPage") three (plain_leaf info (codes "hasPreviousPage") four
      (plain_leaf info (codes "startCursor") more (plain_record info sels.end)))))

  plain_some : (c : Bool) (o : Text) (s : Sels) → is_plain (nodes_append (cond c (connection_additions defs o p) end) (record_additions defs o s p)) ≡ true
  plain_some c o s =
      plain_append (cond c (connection_additions defs o p) end) (record_additions defs o s p)
      (plain_either c (connection_additions defs o p) end (plain_append (edges_field defs o p) (page_info_field defs o p) (plain_edges o) (plain_page o)) refl)
      (plain_record o s)

  pub plain_additions : (c : Bool) (o : Text) (s : Sels) → is_plain (additions defs c o s p) ≡ true
  plain_additions c o sels.end = refl
  plain_additions c o (sels.field a n xs ds s rest) = plain_some c o (sels.field a n xs ds s rest)
  plain_additions c o (sels.spread n ds rest) = plain_some c o (sels.spread n ds rest)
  plain_additions c o (sels.inline on ds s rest) = plain_some c o (sels.inline on ds s rest)

  -- ---- the page information of a connection that has selections

  added_page : (o : Text) (s : Sels) → is_set s ≡ true → asks_page (additions defs true o s p) ≡ true
  added_page o sels.end e = absurd (true≢false (sym e))
  added_page o (sels.field a n xs ds s rest) e = refl
  added_page o (sels.spread n ds rest) e = refl
  added_page o (sels.inline on ds s rest) e = refl

  later_page : (set more : Nodes) → asks_page more ≡ true → asks_page (nodes_append set more) ≡ true
  later_page end more e = e
  later_page (field r n xs ds c of s q rest) more e =
      or_right (bytes_eq r (codes "pageInfo") && (bytes_eq n (codes "pageInfo") && is_empty ds)) (asks_page (nodes_append rest more)) (later_page rest more e)
  later_page (inline o ds s q rest) more e = later_page rest more e

  pub set_asks : (c : Bool) (o : Text) (s : Sels) (set : Nodes) → c ≡ true → is_set s ≡ true → asks_page (nodes_append set (additions defs c o s p)) ≡ true
  set_asks c o s set e h = later_page set (additions defs c o s p) (ap (λ (b : Bool). asks_page (additions defs b o s p)) e ∙ added_page o s h)
