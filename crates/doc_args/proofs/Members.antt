-- One more member of an object in front.
use Rattle.std.proofs.Common.{◌≡◌, ℕ, zero, suc, ◌+◌, ◌<◌, Bool, not, ◌&&◌, ◌||◌, List, [], ◌∷◌, length, map, drop, get_or, add-one, bytes_eq, refl, ap, sym, ◌∙◌}
use Rattle.std.proofs.Math.Seq.{drop-cons}
use Rattle.doc_uses.specs.gql_ast.Value.{Val, members_of}
use Rattle.doc_uses.specs.gql_ast.ValueView.{value_of, argument_of}
use Rattle.doc_uses.specs.gql_ast.declared.value.Argument.{Argument}
use Rattle.gql_graph.specs.gql_plain.Order.{has_text}
use Rattle.doc_uses.specs.schema_types.ArgumentRules.{names_differ, names_differ_among}
use Rattle.doc_uses.specs.schema_tables.Fits.{has_member}
use Rattle.gql_graph.specs.Texts.{Text}

map-drop : {X A : Type 0} (view : X → A) (i : ℕ) (xs : List X) → map view (drop i xs) ≡ drop i (map view xs)
map-drop view zero xs = refl
map-drop view (suc i) [] = refl
map-drop view (suc i) (x ∷ xs) = map-drop view i xs

-- the first member of those that are left
pub member_next : (xs : List Argument) (whole : List (Text × Val)) (i : ℕ) (x : Argument) → i < length xs → x ≡ get_or xs i x → map argument_of xs ≡ whole
    → drop i whole ≡ (x.name, value_of x.value) ∷ drop (i + 1) whole
member_next xs whole i x h is e =
    let same : drop i xs ≡ get_or xs i x ∷ drop (i + 1) xs = rw add-one (drop-cons xs i x h) in
    sym (ap (drop i) e) ∙ sym (map-drop argument_of i xs) ∙ ap (map argument_of) same ∙ ap (λ (y : Argument). argument_of y ∷ map argument_of (drop (i + 1) xs)) (sym is)
    ∙ ap (λ (ys : List (Text × Val)). argument_of x ∷ ys) (map-drop argument_of (i + 1) xs ∙ ap (drop (i + 1)) e)

-- a name is among the members that are left
pub seen_next : (ns : List Text) (rest all : List (Text × Val)) (m : Text) (v : Val) → all ≡ (m, v) ∷ rest → ((n : Text) → has_text ns n ≡ has_member n (members_of rest))
    → (n : Text) → has_text (m ∷ ns) n ≡ has_member n (members_of all)
seen_next ns rest all m v e h n = ap (λ (b : Bool). bytes_eq m n || b) (h n) ∙ sym (ap (λ (ms : List (Text × Val)). has_member n (members_of ms)) e)

-- the members that are left differ
pub differ_next : (ns : List Text) (rest all : List (Text × Val)) (m : Text) (v : Val) (is_new is_good old new : Bool) → all ≡ (m, v) ∷ rest
    → ((n : Text) → has_text ns n ≡ has_member n (members_of rest)) → is_new ≡ not (has_text ns m) → is_good ≡ names_differ v → old ≡ names_differ_among (members_of rest)
    → new ≡ (is_new && is_good && old) → new ≡ names_differ_among (members_of all)
differ_next ns rest all m v is_new is_good old new e h n g o put =
    put ∙ (λ k. (n ∙ ap not (h m)) k && g k && o k) ∙ sym (ap (λ (ms : List (Text × Val)). names_differ_among (members_of ms)) e)
