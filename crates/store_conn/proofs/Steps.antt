-- One step of going over a list of edges, of fields or of rows.
use Rattle.std.proofs.Common.{◌≡◌, ℕ, zero, suc, ◌+◌, ◌<◌, ◌≤◌, Bool, true, false, true≢false, ◌||◌, cond, List, [], ◌∷◌, ◌++◌, length, get_or, drop, Option, Some, None, refl, sym, ap, ◌∙◌, append_assoc, arith, unwrap_or, option_map}
use Rattle.std.proofs.lemmas.List.{drop_more}
use Rattle.store_model.specs.store_record.Keys.{Text}
use Rattle.store_model.specs.store_record.declared.field.Field.{Field}
use Rattle.store_model.specs.store_record.declared.record.Record.{Record}
use Rattle.store_model.specs.Merge.{live_edges, same_node, nodes_at, node_at, node_of, nodes_of, is_among, is_own_key, copied_over, edge_id, next_edge, counter_after}
use Rattle.store_model.specs.Records.{Records, live, with_field}
use Rattle.store_model.specs.Updates.{edges_without}
use Rattle.store_conn.specs.Changes.{edge_changes, edge_ids_of}
use Rattle.store_conn.specs.Lists.{ids_in}
use Rattle.store_conn.specs.Nodes.{and_node, and_nodes, and_wanted, and_all_wanted, and_edge, and_edges, unknown_edges, edges_but}
use Rattle.store_conn.specs.declared.changes.Change.{Change}

module _ {X : Type 0} where
  pub next_of : (xs : List X) (i : ℕ) (x : X) → i < length xs → x ≡ get_or xs i x → drop i xs ≡ x ∷ drop (i + 1) xs
  next_of xs i x within is = drop_more xs i x within ∙ ap (λ y. y ∷ drop (i + 1) xs) (sym is)

  pub drop_past : (i : ℕ) (xs : List X) → length xs ≤ i → drop i xs ≡ []
  drop_past zero [] h = refl
  drop_past zero (x ∷ xs) h = absurd (omega arith)
  drop_past (suc i) [] h = refl
  drop_past (suc i) (x ∷ xs) h = drop_past i xs (omega arith)

-- ---- lists that are made an element at a time

module _ {X Y : Type 0} (made_of : List X → List Y) (splits : (x : X) (xs : List X) → made_of (x ∷ xs) ≡ made_of (x ∷ []) ++ made_of xs) where
  pub made_next : (made next : List Y) (xs : List X) (i : ℕ) (x : X) → i < length xs → x ≡ get_or xs i x → next ≡ made ++ made_of (x ∷ [])
      → next ++ made_of (drop (i + 1) xs) ≡ made ++ made_of (drop i xs)
  made_next made next xs i x within is grown =
      ap (λ ys. ys ++ made_of (drop (i + 1) xs)) grown
      ∙ append_assoc made (made_of (x ∷ [])) (made_of (drop (i + 1) xs))
      ∙ ap (λ ys. made ++ ys) (sym (splits x (drop (i + 1) xs)) ∙ ap made_of (sym (next_of xs i x within is)))

pub live_splits : (m : Records) (e : Option Text) (es : List (Option Text)) → live_edges m (e ∷ es) ≡ live_edges m (e ∷ []) ++ live_edges m es
live_splits m None es = refl
live_splits m (Some id) es = at (live id m)
  where
    at : (r : Option Record) → unwrap_or (option_map (λ r. r ∷ live_edges m es) r) (live_edges m es) ≡ unwrap_or (option_map (λ r. r ∷ []) r) [] ++ live_edges m es
    at None = refl
    at (Some r) = refl

pub but_splits : (known : Option Text → Bool) (m : Records) (e : Option Text) (es : List (Option Text)) → edges_but known m (e ∷ es) ≡ edges_but known m (e ∷ []) ++ edges_but known m es
but_splits known m e es = elim (known (node_at m e)) as (λ b. cond b (edges_but known m es) (e ∷ edges_but known m es) ≡ cond b [] (e ∷ []) ++ edges_but known m es) [ true ↦ refl | false ↦ refl ]

pub without_splits : (m : Records) (n : Text) (e : Option Text) (es : List (Option Text)) → edges_without m n (e ∷ es) ≡ edges_without m n (e ∷ []) ++ edges_without m n es
without_splits m n e es =
    elim (is_among (node_at m e ∷ []) (Some n)) as (λ b. cond b (edges_without m n es) (e ∷ edges_without m n es) ≡ cond b [] (e ∷ []) ++ edges_without m n es) [ true ↦ refl | false ↦ refl ]

pub ids_splits : (c : Change) (cs : List Change) → edge_ids_of (c ∷ cs) ≡ edge_ids_of (c ∷ []) ++ edge_ids_of cs
ids_splits c cs = refl

pub itself_splits : {X : Type 0} (x : X) (xs : List X) → x ∷ xs ≡ (x ∷ []) ++ xs
itself_splits x xs = refl

-- ---- what else a step gives

pub ids_next : (es : List (Option Text)) (i : ℕ) (e : Option Text) → i < length es → e ≡ get_or es i e → ids_in (drop i es) ≡ ids_in (e ∷ []) + ids_in (drop (i + 1) es)
ids_next es i e within is = ap ids_in (next_of es i e within is) ∙ at e
  where
    at : (o : Option Text) → ids_in (o ∷ drop (i + 1) es) ≡ ids_in (o ∷ []) + ids_in (drop (i + 1) es)
    at None = omega arith
    at (Some id) = omega arith

pub wanted_next : (wanted : Option Text → Bool) (m : Records) (known next : Option Text → Bool) (es : List (Option Text)) (i : ℕ) (e : Option Text) → i < length es → e ≡ get_or es i e
    → ((n : Option Text) → next n ≡ and_wanted wanted (node_at m e) known n)
    → and_all_wanted wanted (nodes_at m (drop (i + 1) es)) next ≡ and_all_wanted wanted (nodes_at m (drop i es)) known
wanted_next wanted m known next es i e within is grown =
    ap (and_all_wanted wanted (nodes_at m (drop (i + 1) es))) (λ k n. grown n k)
    ∙ ap (λ xs. and_all_wanted wanted (nodes_at m xs) known) (sym (next_of es i e within is))

module _ (es : List Record) (i : ℕ) (e : Record) (within : i < length es) (is : e ≡ get_or es i e) where
  pub nodes_next : (known next : Option Text → Bool) → ((n : Option Text) → next n ≡ and_node (node_of e) known n)
      → and_nodes (nodes_of (drop (i + 1) es)) next ≡ and_nodes (nodes_of (drop i es)) known
  nodes_next known next grown =
      ap (and_nodes (nodes_of (drop (i + 1) es))) (λ k n. grown n k)
      ∙ ap (λ xs. and_nodes (nodes_of xs) known) (sym (next_of es i e within is))

  pub edges_next : (known next : Option Text → Bool) → ((n : Option Text) → next n ≡ and_edge e known n)
      → and_edges (drop (i + 1) es) next ≡ and_edges (drop i es) known
  edges_next known next grown =
      ap (and_edges (drop (i + 1) es)) (λ k n. grown n k)
      ∙ ap (λ xs. and_edges xs known) (sym (next_of es i e within is))

  pub unknown_next : (known next : Option Text → Bool) (made more : List Record) → ((n : Option Text) → next n ≡ and_edge e known n)
      → more ≡ made ++ unknown_edges known (e ∷ [])
      → more ++ unknown_edges next (drop (i + 1) es) ≡ made ++ unknown_edges known (drop i es)
  unknown_next known next made more grown longer =
      let rest = drop (i + 1) es in
      ap (λ f. more ++ unknown_edges f rest) (λ k n. grown n k)
      ∙ ap (λ xs. xs ++ unknown_edges (and_edge e known) rest) longer
      ∙ append_assoc made (unknown_edges known (e ∷ [])) (unknown_edges (and_edge e known) rest)
      ∙ ap (λ xs. made ++ xs) (sym (splits rest) ∙ ap (unknown_edges known) (sym (next_of es i e within is)))
    where
      splits : (rest : List Record) → unknown_edges known (e ∷ rest) ≡ unknown_edges known (e ∷ []) ++ unknown_edges (and_edge e known) rest
      splits rest =
          elim (known (node_of e)) as (λ b. cond b (unknown_edges known rest) (e ∷ unknown_edges (and_node (node_of e) known) rest)
          ≡ cond b [] (e ∷ []) ++ unknown_edges (cond b known (and_node (node_of e) known)) rest) [ true ↦ refl | false ↦ refl ]

pub among_next : (m : Records) (n : Option Text) (es : List (Option Text)) (i : ℕ) (e : Option Text) → i < length es → e ≡ get_or es i e
    → is_among (node_at m e ∷ []) n ≡ false → is_among (nodes_at m (drop (i + 1) es)) n ≡ is_among (nodes_at m (drop i es)) n
among_next m n es i e within is other =
    sym (ap (λ xs. is_among (nodes_at m xs) n) (next_of es i e within is) ∙ passed (same_node (node_at m e) n) (is_among (nodes_at m (drop (i + 1) es)) n) other)
  where
    passed : (a b : Bool) → (a || false) ≡ false → (a || b) ≡ b
    passed true b h = absurd (true≢false h)
    passed false b h = refl

pub among_found : (m : Records) (n : Option Text) (es : List (Option Text)) (i : ℕ) (e : Option Text) → i < length es → e ≡ get_or es i e
    → is_among (node_at m e ∷ []) n ≡ true → is_among (nodes_at m (drop i es)) n ≡ true
among_found m n es i e within is there =
    ap (λ xs. is_among (nodes_at m xs) n) (next_of es i e within is) ∙ found (same_node (node_at m e) n) (is_among (nodes_at m (drop (i + 1) es)) n) there
  where
    found : (a b : Bool) → (a || false) ≡ true → (a || b) ≡ true
    found true b h = refl
    found false b h = absurd (true≢false (sym h))

pub fields_next : (fields : List (Text × Field)) (i : ℕ) (f : Text × Field) (row next : Record) → i < length fields → f ≡ get_or fields i f
    → next ≡ copied_over (f ∷ []) row → copied_over (drop (i + 1) fields) next ≡ copied_over (drop i fields) row
fields_next fields i f row next within is put =
    ap (copied_over (drop (i + 1) fields)) put ∙ ap (λ fs. copied_over fs row) (sym (next_of fields i f within is))

pub changes_next : (connection id : Text) (k next : ℕ) (row : Record) (made more : List Change) (es : List Record) (i : ℕ) (e : Record) → i < length es → e ≡ get_or es i e
    → id ≡ edge_id connection k → row ≡ e → next ≡ next_edge k → more ≡ made ++ record { id = id; row = row } ∷ []
    → more ++ edge_changes connection next (drop (i + 1) es) ≡ made ++ edge_changes connection k (drop i es)
changes_next connection id k next row made more es i e within is named copied counted grown =
    let rest = drop (i + 1) es in
    let change = λ (ch : Change). made ++ ch ∷ [] in
    ap (λ n. more ++ edge_changes connection n rest) counted
    ∙ ap (λ cs. cs ++ edge_changes connection (next_edge k) rest) (grown ∙ (λ j. change (record { id = named j; row = copied j })))
    ∙ append_assoc made (edge_changes connection k (e ∷ [])) (edge_changes connection (next_edge k) rest)
    ∙ ap (λ xs. made ++ edge_changes connection k xs) (sym (next_of es i e within is))

pub counter_next : (k next : ℕ) (es : List Record) (i : ℕ) (e : Record) → i < length es → e ≡ get_or es i e → next ≡ next_edge k → counter_after next (drop (i + 1) es) ≡ counter_after k (drop i es)
counter_next k next es i e within is counted = ap (λ n. counter_after n (drop (i + 1) es)) counted ∙ ap (counter_after k) (sym (next_of es i e within is))
