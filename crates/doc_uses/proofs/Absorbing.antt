-- Places that change nothing, since they are noted already.
use Rattle.std.proofs.Common.{◌≡◌, ℕ, Bool, true, false, true≢false, cond, ◌||◌, List, [], ◌∷◌, ◌++◌, Option, Some, None, bytes_eq, refl, ap, sym, ◌∙◌, arith}
use Rattle.std.proofs.lemmas.Slice.Eq.{bytes_eq-Decides}
use Rattle.doc_sites.specs.gql_plain.Order.{has_text}
use Rattle.doc_sites.specs.schema_types.ArgumentRules.{Use}
use Rattle.doc_sites.specs.gql_graph.Leasts.{lower, least_from}
use Rattle.doc_sites.specs.gql_graph.Rules.{each}
use Rattle.doc_sites.specs.gql_graph.Texts.{Text}
use Rattle.doc_sites.proofs.gql_graph_laws.LeastSteps.{noted-append, each-append}
use Rattle.doc_sites.proofs.gql_graph_laws.TextSteps.{same_text}
use Rattle.doc_uses.specs.UsesByName.{named_uses, uses_named}

-- ---- the order of places does not matter

two : (o : Option ℕ) (a b : ℕ) → Some (lower (Some (lower o a)) b) ≡ Some (lower (Some (lower o b)) a)
two None a b = ap Some (omega arith)
two (Some m) a b = ap Some (omega arith)

one_last : (o : Option ℕ) (a : ℕ) (ns : List ℕ) → least_from (Some (lower o a)) ns ≡ Some (lower (least_from o ns) a)
one_last o a [] = refl
one_last o a (n ∷ ns) = ap (λ (x : Option ℕ). least_from x ns) (two o a n) ∙ one_last (Some (lower o n)) a ns

swap : (o : Option ℕ) (a b : List ℕ) → least_from (least_from o a) b ≡ least_from (least_from o b) a
swap o [] b = refl
swap o (n ∷ a) b = swap (Some (lower o n)) a b ∙ ap (λ (x : Option ℕ). least_from x a) (one_last o n b)

again : (o : Option ℕ) (n : ℕ) → Some (lower (Some (lower o n)) n) ≡ Some (lower o n)
again None n = ap Some (omega arith)
again (Some m) n = ap Some (omega arith)

twice : (o : Option ℕ) (ns : List ℕ) → least_from (least_from o ns) ns ≡ least_from o ns
twice o [] = refl
twice o (n ∷ ns) =
    ap (λ (x : Option ℕ). least_from x ns) (sym (one_last (Some (lower o n)) n ns) ∙ ap (λ (x : Option ℕ). least_from x ns) (again o n))
    ∙ twice (Some (lower o n)) ns

-- ---- what changes nothing

Absorbs : Option ℕ → List ℕ → Type 0
Absorbs q ns = least_from q ns ≡ q

pub absorbs_first : (q : Option ℕ) (a b : List ℕ) → least_from q (a ++ b) ≡ q → least_from q a ≡ q
absorbs_first q a b h =
    let both : least_from (least_from q a) b ≡ q = sym (noted-append q a b) ∙ h in
    sym (ap (λ (x : Option ℕ). least_from x a) both) ∙ swap (least_from q a) b a ∙ ap (λ (x : Option ℕ). least_from x b) (twice q a) ∙ both

pub absorbs_second : (q : Option ℕ) (a b : List ℕ) → least_from q (a ++ b) ≡ q → least_from q b ≡ q
absorbs_second q a b h =
    let both : least_from (least_from q a) b ≡ q = sym (noted-append q a b) ∙ h in
    sym (ap (λ (x : Option ℕ). least_from x b) both) ∙ twice (least_from q a) b ∙ both

pub absorbs_both : (q : Option ℕ) (a b : List ℕ) → least_from q a ≡ q → least_from q b ≡ q → least_from q (a ++ b) ≡ q
absorbs_both q a b f g = noted-append q a b ∙ ap (λ (x : Option ℕ). least_from x b) f ∙ g

same_name : (n : Text) → bytes_eq n n ≡ true
same_name n = (bytes_eq-Decides n n).1 refl

-- what is wrong with the uses in a part, where its name is one of those that are looked at
abbrev wrong_in : (Use → List ℕ) → (Text → Bool) → Text × List Use → List ℕ
wrong_in wrong is_one p = cond (is_one p.0) (each wrong p.1) []

abbrev wrong_named : (Use → List ℕ) → List (Text × List Use) → Text → List ℕ
wrong_named wrong ps n = each wrong (uses_named ps n)

named_absorbed : (wrong : Use → List ℕ) (q : Option ℕ) (is_one : Text → Bool) (n : Text) → is_one n ≡ true → (ps : List (Text × List Use))
    → least_from q (each (wrong_in wrong is_one) ps) ≡ q → least_from q (wrong_named wrong ps n) ≡ q
named_absorbed wrong q is_one n h [] a = refl
named_absorbed wrong q is_one n h (p ∷ ps) a =
    ap (least_from q) (each-append wrong (named_uses p n) (uses_named ps n))
    ∙ absorbs_both q (each wrong (named_uses p n)) (wrong_named wrong ps n) (on (bytes_eq p.0 n) refl)
    (named_absorbed wrong q is_one n h ps (absorbs_second q (wrong_in wrong is_one p) (each (wrong_in wrong is_one) ps) a))
  where
    on : (b : Bool) → bytes_eq p.0 n ≡ b → least_from q (each wrong (cond b p.1 [])) ≡ q
    on true e =
        let there : is_one p.0 ≡ true = ap is_one (same_text p.0 n e) ∙ h in
        sym (ap (λ (b : Bool). least_from q (cond b (each wrong p.1) [])) there) ∙ absorbs_first q (wrong_in wrong is_one p) (each (wrong_in wrong is_one) ps) a
    on false e = refl

all_absorbed : (wrong : Use → List ℕ) (q : Option ℕ) (is_one : Text → Bool) (ps : List (Text × List Use)) → least_from q (each (wrong_in wrong is_one) ps) ≡ q
    → (ns : List Text) → ((n : Text) → has_text ns n ≡ true → is_one n ≡ true) → least_from q (each (wrong_named wrong ps) ns) ≡ q
all_absorbed wrong q is_one ps a [] h = refl
all_absorbed wrong q is_one ps a (n ∷ ns) h =
    absorbs_both q (wrong_named wrong ps n) (each (wrong_named wrong ps) ns)
    (named_absorbed wrong q is_one n (h n (ap (λ (b : Bool). b || has_text ns n) (same_name n))) ps a)
    (all_absorbed wrong q is_one ps a ns (λ m g. h m (ap (λ (b : Bool). bytes_eq n m || b) g ∙ or_true (bytes_eq n m))))
  where
    or_true : (b : Bool) → (b || true) ≡ true
    or_true true = refl
    or_true false = refl

-- the uses of one name, where those of all names are noted
name_absorbed : (wrong : Use → List ℕ) (q : Option ℕ) (ps : List (Text × List Use)) (n : Text) (ns : List Text) → least_from q (each (wrong_named wrong ps) ns) ≡ q
    → has_text ns n ≡ true → least_from q (wrong_named wrong ps n) ≡ q
name_absorbed wrong q ps n [] a h = absurd (true≢false (sym h))
name_absorbed wrong q ps n (m ∷ ns) a h = on (bytes_eq m n) refl h (λ g. name_absorbed wrong q ps n ns (absorbs_second q (wrong_named wrong ps m) (each (wrong_named wrong ps) ns) a) g)
  where
    on : (b : Bool) → bytes_eq m n ≡ b → (b || has_text ns n) ≡ true → (has_text ns n ≡ true → least_from q (wrong_named wrong ps n) ≡ q) → least_from q (wrong_named wrong ps n) ≡ q
    on true e g rest = sym (ap (λ (t : Text). least_from q (wrong_named wrong ps t)) (same_text m n e)) ∙ absorbs_first q (wrong_named wrong ps m) (each (wrong_named wrong ps) ns) a
    on false e g rest = rest g

pub parts_absorbed : (wrong : Use → List ℕ) (q : Option ℕ) (is_one : Text → Bool) (ps : List (Text × List Use))
    → ((n : Text) → is_one n ≡ true → least_from q (wrong_named wrong ps n) ≡ q) → least_from q (each (wrong_in wrong is_one) ps) ≡ q
parts_absorbed wrong q is_one [] h = refl
parts_absorbed wrong q is_one (p ∷ ps) h =
    absorbs_both q (wrong_in wrong is_one p) (each (wrong_in wrong is_one) ps) (on (is_one p.0) refl)
    (parts_absorbed wrong q is_one ps (λ n g. absorbs_second q (each wrong (named_uses p n)) (wrong_named wrong ps n) (sym (ap (least_from q) (each-append wrong (named_uses p n) (uses_named ps n))) ∙ h n g)))
  where
    on : (b : Bool) → is_one p.0 ≡ b → least_from q (cond b (each wrong p.1) []) ≡ q
    on true e =
        sym (ap (λ (b : Bool). least_from q (each wrong (cond b p.1 []))) (same_name p.0))
        ∙ absorbs_first q (each wrong (named_uses p p.0)) (wrong_named wrong ps p.0) (sym (ap (least_from q) (each-append wrong (named_uses p p.0) (uses_named ps p.0))) ∙ h p.0 e)
    on false e = refl

-- the uses of each name, and the uses in the parts that have one of the names
pub by_name : (wrong : Use → List ℕ) (o : Option ℕ) (names : List Text) (ps : List (Text × List Use))
    → least_from o (each (λ n. each wrong (uses_named ps n)) names) ≡ least_from o (each (λ p. cond (has_text names p.0) (each wrong p.1) []) ps)
by_name wrong o names ps =
    let left : List ℕ = each (wrong_named wrong ps) names in
    let right : List ℕ = each (wrong_in wrong (has_text names)) ps in
    let left_absorbs : least_from (least_from o left) right ≡ least_from o left = parts_absorbed wrong (least_from o left) (has_text names) ps (λ n h. name_absorbed wrong (least_from o left) ps n names (twice o left) h) in
    let right_absorbs : least_from (least_from o right) left ≡ least_from o right = all_absorbed wrong (least_from o right) (has_text names) ps (twice o right) names (λ n h. h) in
    sym left_absorbs ∙ swap o left right ∙ right_absorbs
