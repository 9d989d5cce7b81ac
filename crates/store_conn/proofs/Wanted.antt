-- Of the nodes of a list only those matter that the edges of a page have too.
use Rattle.std.proofs.Common.{◌≡◌, Bool, true, false, true≢false, ◌||◌, cond, List, [], ◌∷◌, Option, Some, None, refl, sym, ap, ◌∙◌}
use Rattle.std.proofs.lemmas.Slice.Eq.{bytes_eq-Decides}
use Rattle.store_model.specs.store_record.Keys.{Text}
use Rattle.store_model.specs.store_record.declared.record.Record.{Record}
use Rattle.store_model.specs.Merge.{same_node, node_of, nodes_of, is_among}
use Rattle.store_conn.specs.Nodes.{and_node, and_wanted, and_all_wanted, unknown_edges}
use Rattle.store_conn.proofs.Sets.{or_moves, or_none}

-- ---- nodes that are the same

same_is : (n other : Option Text) → same_node n other ≡ true → n ≡ other
same_is None other same = absurd (true≢false (sym same))
same_is (Some id) None same = absurd (true≢false (sym same))
same_is (Some id) (Some q) same = ap (λ t. Some t) ((bytes_eq-Decides id q).0 same)

same_itself : (id : Text) → same_node (Some id) (Some id) ≡ true
same_itself id = (bytes_eq-Decides id id).1 refl

none_same : (n : Option Text) → same_node n None ≡ false
none_same None = refl
none_same (Some id) = refl

none_among : (ns : List (Option Text)) → is_among ns None ≡ false
none_among [] = refl
none_among (n ∷ ns) = ap (λ b. b || is_among ns None) (none_same n) ∙ none_among ns

-- ---- what is known of a node that is wanted

module _ (wanted : Option Text → Bool) (other : Option Text) (is : wanted other ≡ true) where
  one_wanted : (n : Option Text) (known : Option Text → Bool) → and_wanted wanted n known other ≡ (same_node n other || known other)
  one_wanted n known = at (same_node n other) (wanted n) refl refl
    where
      at : (s w : Bool) → same_node n other ≡ s → wanted n ≡ w → and_wanted wanted n known other ≡ (same_node n other || known other)
      at s true same has = ap (λ (b : Bool). cond b (and_node n known) known other) has
      at true false same lacks = absurd (true≢false (sym is ∙ ap wanted (sym (same_is n other same)) ∙ lacks))
      at false false same lacks = ap (λ (b : Bool). cond b (and_node n known) known other) lacks ∙ sym (ap (λ (b : Bool). b || known other) same)

  pub wanted_are_known : (ns : List (Option Text)) (known : Option Text → Bool) → and_all_wanted wanted ns known other ≡ (is_among ns other || known other)
  wanted_are_known [] known = refl
  wanted_are_known (n ∷ ns) known =
      wanted_are_known ns (and_wanted wanted n known)
      ∙ ap (λ b. is_among ns other || b) (one_wanted n known)
      ∙ or_moves (same_node n other) (is_among ns other) (known other)

-- ---- what is known of the nodes of edges decides which of them are new

module _ (nodes : List (Option Text)) where
  abbrev pub Agree : (Option Text → Bool) → (Option Text → Bool) → Type 0
  Agree f g = (f None ≡ g None) × ((other : Option Text) → is_among nodes other ≡ true → f other ≡ g other)

fewer : (n : Option Text) (ns : List (Option Text)) (f g : Option Text → Bool) → Agree (n ∷ ns) f g → Agree ns f g
fewer n ns f g agree = (agree.0, λ other among. agree.1 other (ap (λ b. same_node n other || b) among ∙ or_true (same_node n other)))
  where
    or_true : (a : Bool) → (a || true) ≡ true
    or_true true = refl
    or_true false = refl

first : (n : Option Text) (ns : List (Option Text)) (f g : Option Text → Bool) → Agree (n ∷ ns) f g → f n ≡ g n
first None ns f g agree = agree.0
first (Some id) ns f g agree = agree.1 (Some id) (ap (λ b. b || is_among ns (Some id)) (same_itself id))

one_more : (n : Option Text) (ns : List (Option Text)) (f g : Option Text → Bool) → Agree ns f g → Agree ns (and_node n f) (and_node n g)
one_more n ns f g agree = (ap (λ b. same_node n None || b) agree.0, λ other among. ap (λ b. same_node n other || b) (agree.1 other among))

agreed_unknown : (f g : Option Text → Bool) (es : List Record) → Agree (nodes_of es) f g → unknown_edges f es ≡ unknown_edges g es
agreed_unknown f g [] agree = refl
agreed_unknown f g (e ∷ es) agree =
    let n = node_of e in
    let rest = fewer n (nodes_of es) f g agree in
    let same = first n (nodes_of es) f g agree in
    let left = agreed_unknown f g es rest in
    let kept = agreed_unknown (and_node n f) (and_node n g) es (one_more n (nodes_of es) f g rest) in
    λ k. cond (same k) (left k) (e ∷ kept k)

-- of the nodes of a list, only those of the edges
pub wanted_unknown : (known wanted noted : Option Text → Bool) (ns : List (Option Text)) (es : List Record) → ((other : Option Text) → known other ≡ false) → wanted ≡ is_among (nodes_of es)
    → noted None ≡ false → noted ≡ and_all_wanted wanted ns known → unknown_edges noted es ≡ unknown_edges (is_among ns) es
wanted_unknown known wanted noted ns es none want lack noting =
    agreed_unknown noted (is_among ns) es (
      lack ∙ sym (none_among ns),
      λ other among.
          (λ k. noting k other)
          ∙ wanted_are_known wanted other (ap (λ (f : Option Text → Bool). f other) want ∙ among) ns known
          ∙ ap (λ b. is_among ns other || b) (none other)
          ∙ or_none (is_among ns other),
    )
