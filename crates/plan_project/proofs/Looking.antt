-- What is found first in lists, and tables that are filled with it.
use Rattle.std.proofs.Common.{◌≡◌, ◌<◌, ◌≤◌, ◌+◌, ℕ, zero, suc, Bool, true, false, true≢false, cond, List, [], ◌∷◌, ◌++◌, length, get_or, take, Option, Some, None, is_some, bytes_eq, refl, sym, ap, subst, ◌∙◌, arith}
use Rattle.std.proofs.lemmas.List.{take_all, take_more}
use Rattle.plan_ir.specs.gql_ast.declared.document.Definition.{Definition}
use Rattle.plan_ir.specs.gql_ast.declared.document.Document.{Document}
use Rattle.plan_ir.specs.gql_ast.declared.place.Placed.{Placed}
use Rattle.plan_ir.proofs.gql_graph_laws.TextSteps.{same_text}
use Rattle.plan_project.specs.Filling.{Takes, first_of, or_else, trees_in}
use Rattle.plan_project.specs.Lookups.{Agree}
use Rattle.plan_ir.specs.schema_tables.Types.{Text}

or_else-none : {X : Type 0} (o : Option X) → or_else o None ≡ o
or_else-none None = refl
or_else-none (Some x) = refl

pub or_else-assoc : {X : Type 0} (a b c : Option X) → or_else (or_else a b) c ≡ or_else a (or_else b c)
or_else-assoc None b c = refl
or_else-assoc (Some x) b c = refl

-- ---- one more name

-- a value is put where there was none
pub put_over : {X : Type 0} (b : Bool) (old : Option X) (x : X) → (b ≡ true → old ≡ None) → cond b (Some x) old ≡ or_else old (cond b (Some x) None)
put_over true None x h = refl
put_over false None x h = refl
put_over true (Some k) x h = let none : Some k ≡ None = h refl in cc
put_over false (Some k) x h = refl

-- what is there stays
pub keep_over : {X : Type 0} (b : Bool) (old : Option X) (x : X) → (b ≡ true → is_some old ≡ true) → old ≡ or_else old (cond b (Some x) None)
keep_over true None x h = let there : false ≡ true = h refl in cc
keep_over false None x h = refl
keep_over b (Some k) x h = refl

-- ---- lists

module _ {X Y : Type 0} (find : X → Option Y) where
  pub found-append : (xs ys : List X) → first_of find (xs ++ ys) ≡ or_else (first_of find xs) (first_of find ys)
  found-append [] ys = refl
  found-append (x ∷ xs) ys = ap (or_else (find x)) (found-append xs ys) ∙ sym (or_else-assoc (find x) (first_of find xs) (first_of find ys))

  -- the first elements with the next one
  found-more : (xs : List X) (i : ℕ) (x : X) → i < length xs → x ≡ get_or xs i x → first_of find (take (i + 1) xs) ≡ or_else (first_of find (take i xs)) (find x)
  found-more xs i x within is =
      ap (first_of find) (take_more xs i x within) ∙ found-append (take i xs) (get_or xs i x ∷ [])
      ∙ ap (or_else (first_of find (take i xs))) (or_else-none (find (get_or xs i x)) ∙ ap find (sym is))

  first_there : (a b : Option Y) → is_some a ≡ true → is_some (or_else a b) ≡ true
  first_there None b h = absurd (true≢false (sym h))
  first_there (Some y) b h = refl

  later_there : (a b : Option Y) → is_some b ≡ true → is_some (or_else a b) ≡ true
  later_there None b h = h
  later_there (Some y) b h = refl

  -- where an element has something, the list has
  pub found-at : (xs : List X) (i : ℕ) (x : X) → i < length xs → x ≡ get_or xs i x → is_some (find x) ≡ true → is_some (first_of find xs) ≡ true
  found-at [] i x h e s = absurd (omega arith)
  found-at (y ∷ xs) zero x h e s = first_there (find y) (first_of find xs) (ap (λ z. is_some (find z)) (sym e) ∙ s)
  found-at (y ∷ xs) (suc i) x h e s = later_there (find y) (first_of find xs) (found-at xs i x (omega arith) e s)

-- ---- documents

module _ {Y : Type 0} (find : Definition → Option Y) where
  -- what is found in one document
  abbrev pub in_document : Placed Document → Option Y
  in_document p = first_of find p.tree.definitions

  pub found_in_documents : (ps : List (Placed Document)) → first_of in_document ps ≡ first_of find (trees_in ps)
  found_in_documents [] = refl
  found_in_documents (p ∷ ps) =
      ap (or_else (in_document p)) (found_in_documents ps) ∙ sym (found-append find p.tree.definitions (trees_in ps))

-- ---- tables

module _ {X Y : Type 0} (P : Text → X → Y → Type 0) where
  -- the same is found
  takes_same : (f g : Text → Option X) (old new : Text → Option Y) → ((n : Text) → f n ≡ g n) → Takes P f old new → Takes P g old new
  takes_same f g old new e t n o h = subst (λ x. Agree (P n) (or_else o x) (new n)) (e n) (t n o h)

  -- nothing is found
  pub takes_nothing : (old : Text → Option Y) → Takes P (λ n. None) old old
  takes_nothing old n o h = subst (λ x. Agree (P n) x (old n)) (sym (or_else-none o)) h

  -- one thing, and then another
  takes_then : (f g : Text → Option X) (old mid new : Text → Option Y) → Takes P f old mid → Takes P g mid new → Takes P (λ n. or_else (f n) (g n)) old new
  takes_then f g old mid new s t n o h = subst (λ x. Agree (P n) x (new n)) (or_else-assoc o (f n) (g n)) (t n (or_else o (f n)) (s n o h))

  -- a value is put under its name, unless there is one
  pub takes_one : (old new : Text → Option Y) (name : Text) (x : X) (y : Y) → ((n : Text) → new n ≡ or_else (old n) (cond (bytes_eq name n) (Some y) None)) → P name x y
      → Takes P (λ n. cond (bytes_eq name n) (Some x) None) old new
  takes_one old new name x y put p n o h =
      subst (λ z. Agree (P n) (or_else o (cond (bytes_eq name n) (Some x) None)) z) (sym (put n))
      (on (bytes_eq name n) o (old n) (λ e. subst (λ (m : Text). P m x y) (same_text name n e) p) h)
    where
      new_one : (b : Bool) → (b ≡ true → P n x y) → Agree (P n) (cond b (Some x) None) (cond b (Some y) None)
      new_one true q = q refl
      new_one false q = tt

      on : (b : Bool) (k : Option X) (l : Option Y) → (b ≡ true → P n x y) → Agree (P n) k l → Agree (P n) (or_else k (cond b (Some x) None)) (or_else l (cond b (Some y) None))
      on b None None q h = new_one b q
      on b None (Some l) q h = absurd h
      on b (Some k) None q h = absurd h
      on b (Some k) (Some l) q h = h

  -- the next element of a loop
  pub takes_next : {A : Type 0} (find : Text → A → Option X) (xs : List A) (i : ℕ) (a : A) (old mid new : Text → Option Y) → i < length xs → a ≡ get_or xs i a
      → Takes P (λ n. first_of (find n) (take i xs)) old mid → Takes P (λ n. find n a) mid new → Takes P (λ n. first_of (find n) (take (i + 1) xs)) old new
  takes_next find xs i a old mid new within is s t =
      takes_same (λ n. or_else (first_of (find n) (take i xs)) (find n a)) (λ n. first_of (find n) (take (i + 1) xs)) old new
      (λ n. sym (found-more (find n) xs i a within is)) (takes_then (λ n. first_of (find n) (take i xs)) (λ n. find n a) old mid new s t)

  -- all of them
  pub takes_all : {A : Type 0} (find : Text → A → Option X) (xs : List A) (i : ℕ) (old new : Text → Option Y) → length xs ≤ i
      → Takes P (λ n. first_of (find n) (take i xs)) old new → Takes P (λ n. first_of (find n) xs) old new
  takes_all find xs i old new behind t =
      takes_same (λ n. first_of (find n) (take i xs)) (λ n. first_of (find n) xs) old new (λ n. ap (first_of (find n)) (take_all i xs behind)) t

  -- a table that was empty has what is found
  pub takes_whole : (f : Text → Option X) (old new : Text → Option Y) → ((n : Text) → old n ≡ None) → Takes P f old new → (n : Text) → Agree (P n) (f n) (new n)
  takes_whole f old new empty t n = t n None (subst (λ x. Agree (P n) None x) (sym (empty n)) tt)
