-- Tables of names, of each name the first, and loops over what is put into them.
use Rattle.std.proofs.Common.{◌≡◌, ℕ, ◌+◌, ◌<◌, ◌≤◌, Bool, true, false, true≢false, cond, List, [], ◌∷◌, map, drop, length, get_or, Option, Some, None, option_map, is_some, bytes_eq, refl, ap, sym, ◌∙◌}
use Rattle.std.proofs.lemmas.List.{drop_all, drop_more}
use Rattle.std.specs.Option.{option_or}
use Rattle.plan_expand.specs.doc_sites.SitesView.{definition_of}
use Rattle.plan_expand.specs.doc_sites.declared.site.DefinitionAt as Definition
use Rattle.plan_ir.proofs.gql_graph_laws.TextSteps.{same_text}
use Rattle.plan_ir.specs.Expansion.{is_named, operation_named}
use Rattle.plan_read.specs.OperationsView.{operation_in, operation_under, ready_operation}
use Rattle.plan_read.specs.Reading.{ready_fragment}
use Rattle.plan_read.specs.ReadyView.{ready_in}
use Rattle.plan_ir.specs.schema_tables.Types.{Text}
use Rattle.plan_ir.specs.schema_trees.Located.{Located}
use Rattle.plan_ir.specs.schema_types.NameRules.{fragment_named, fragments, operations}
use Rattle.plan_ir.specs.schema_types.Sites.{OperationAt, DefinitionAt, operation, fragment}

-- ---- what is put under a name

pub or_none : {Y : Type 0} (o : Option Y) → o ≡ option_or o None
or_none None = refl
or_none (Some y) = refl

or_assoc : {Y : Type 0} (a b c : Option Y) → option_or (option_or a b) c ≡ option_or a (option_or b c)
or_assoc None b c = refl
or_assoc (Some y) b c = refl

pub some_mapped : {V Y : Type 0} (view : V → Y) (o : Option V) → is_some (option_map view o) ≡ is_some o
some_mapped view None = refl
some_mapped view (Some v) = refl

none_mapped : {V Y : Type 0} (view : V → Y) (o : Option V) → is_some o ≡ false → option_map view o ≡ None
none_mapped view None e = refl
none_mapped view (Some v) e = cc

keep_old : {Y : Type 0} (b : Bool) (old : Option Y) (y : Y) → (b ≡ true → is_some old ≡ true) → old ≡ option_or old (cond b (Some y) None)
keep_old true None y h = absurd (true≢false (sym (h refl)))
keep_old true (Some x) y h = refl
keep_old false old y h = or_none old

take_new : {Y : Type 0} (b : Bool) (old : Option Y) (y : Y) → (b ≡ true → old ≡ None) → cond b (Some y) old ≡ option_or old (cond b (Some y) None)
take_new true None y h = refl
take_new true (Some x) y h = never (h refl) where
  never : Some x ≡ None → Some y ≡ Some x
  never e = cc
take_new false old y h = or_none old

map_cond : {V Y : Type 0} (view : V → Y) (b : Bool) (v : V) (o : Option V) → option_map view (cond b (Some v) o) ≡ cond b (Some (view v)) (option_map view o)
map_cond view true v o = refl
map_cond view false v o = refl

-- the name is there already
pub name_stays : {V Y : Type 0} (view : V → Y) (old : Text → Option V) (name : Text) (y : Y) → is_some (old name) ≡ true
    → (n : Text) → option_map view (old n) ≡ option_or (option_map view (old n)) (cond (bytes_eq name n) (Some y) None)
name_stays view old name y h n =
    keep_old (bytes_eq name n) (option_map view (old n)) y (λ e. some_mapped view (old n) ∙ ap (λ (m : Text). is_some (old m)) (sym (same_text name n e)) ∙ h)

-- the name is new
pub name_comes : {V Y : Type 0} (view : V → Y) (old new : Text → Option V) (name : Text) (v : V) → is_some (old name) ≡ false → ((n : Text) → new n ≡ cond (bytes_eq name n) (Some v) (old n))
    → (n : Text) → option_map view (new n) ≡ option_or (option_map view (old n)) (cond (bytes_eq name n) (Some (view v)) None)
name_comes view old new name v h put n =
    ap (option_map view) (put n) ∙ map_cond view (bytes_eq name n) v (old n)
    ∙ take_new (bytes_eq name n) (option_map view (old n)) (view v) (λ e. ap (λ (m : Text). option_map view (old m)) (sym (same_text name n e)) ∙ none_mapped view (old name) h)

-- ---- loops: what is found so far, and in what is left

pub or_next : {X Y : Type 0} (find : List X → Option Y) (one : X → Option Y) → ((x : X) (xs : List X) → find (x ∷ xs) ≡ option_or (one x) (find xs))
    → (xs : List X) (i : ℕ) (x : X) (old new whole : Option Y) → i < length xs → x ≡ get_or xs i x → new ≡ option_or old (one x)
    → option_or old (find (drop i xs)) ≡ whole → option_or new (find (drop (i + 1) xs)) ≡ whole
or_next {X = X} {Y = Y} find one law xs i x old new whole h is put w =
    let rest : Option Y = find (drop (i + 1) xs) in
    ap (λ (o : Option Y). option_or o rest) put ∙ or_assoc old (one x) rest
    ∙ ap (λ (y : X). option_or old (option_or (one y) rest)) is
    ∙ sym (ap (option_or old) (ap find (drop_more xs i x h) ∙ law (get_or xs i x) (drop (i + 1) xs))) ∙ w

pub or_end : {X Y : Type 0} (find : List X → Option Y) → find [] ≡ None → (xs : List X) (i : ℕ) (old whole : Option Y) → length xs ≤ i
    → option_or old (find (drop i xs)) ≡ whole → old ≡ whole
or_end {X = X} {Y = Y} find none xs i old whole h w = or_none old ∙ sym (ap (option_or old) (ap find (drop_all i xs h) ∙ none)) ∙ w

-- ---- fragments by their names

chosen : {X Y : Type 0} (f : X → Y) (b : Bool) (x : X) (o : Option X) → option_map f (cond b (Some x) o) ≡ option_or (cond b (Some (f x)) None) (option_map f o)
chosen f true x o = refl
chosen f false x o = refl

-- one definition more
pub fragment_before : (n : Text) (d : Definition.DefinitionAt) (ds : List Definition.DefinitionAt)
    → option_map ready_fragment (fragment_named (fragments (map definition_of (d ∷ ds))) n)
    ≡ option_or (ready_in (definition_of d) n) (option_map ready_fragment (fragment_named (fragments (map definition_of ds)) n))
fragment_before n d ds = on (definition_of d) where
  on : (e : DefinitionAt)
      → option_map ready_fragment (fragment_named (fragments (e ∷ map definition_of ds)) n)
      ≡ option_or (ready_in e n) (option_map ready_fragment (fragment_named (fragments (map definition_of ds)) n))
  on (operation o) = refl
  on (fragment f) = chosen ready_fragment (bytes_eq f.name.name n) f (fragment_named (fragments (map definition_of ds)) n)

-- ---- operations by their names

operation_if : (n : Text) (o : OperationAt) (q : Option OperationAt) (m : Option Located)
    → option_map ready_operation (cond (is_named n m) (Some o) q) ≡ option_or (operation_under m (ready_operation o) n) (option_map ready_operation q)
operation_if n o q None = refl
operation_if n o q (Some l) = chosen ready_operation (bytes_eq l.name n) o q

-- one definition more
pub operation_before : (n : Text) (d : Definition.DefinitionAt) (ds : List Definition.DefinitionAt)
    → option_map ready_operation (operation_named (operations (map definition_of (d ∷ ds))) n)
    ≡ option_or (operation_in (definition_of d) n) (option_map ready_operation (operation_named (operations (map definition_of ds)) n))
operation_before n d ds = on (definition_of d) where
  on : (e : DefinitionAt)
      → option_map ready_operation (operation_named (operations (e ∷ map definition_of ds)) n)
      ≡ option_or (operation_in e n) (option_map ready_operation (operation_named (operations (map definition_of ds)) n))
  on (operation o) = operation_if n o (operation_named (operations (map definition_of ds)) n) o.name
  on (fragment f) = refl
