-- A machine of schemas with a greater limit goes the same way, from each state that reads no value, type or directive.
use Rattle.std.proofs.Common.{◌≡◌, ℕ, ◌+◌, Bool, true, false, cond, bytes_eq, List, [], ◌∷◌, ◌++◌, Option, Some, None, option_map, Result, Ok, Err, refl}
use Rattle.gql_syntax.specs.gql_lex.Toks as tok
use Rattle.gql_syntax.specs.gql_lex.Toks.{Tok}
use Rattle.gql_syntax.specs.gql_ast.Ty.{Ty}
use Rattle.gql_syntax.specs.gql_ast.declared.directive.Directive.{Directive}
use Rattle.gql_syntax.specs.gql_ast.declared.document.Kind.{Kind}
use Rattle.gql_syntax.specs.gql_ast.declared.location.Location.{Location}
use Rattle.gql_syntax.specs.gql_ast.declared.schema.Root.{Root}
use Rattle.gql_syntax.specs.Run.{Halt, unexpected, too_deep}
use Rattle.gql_syntax.specs.Words.{on_word}
use Rattle.gql_sdl.specs.Machine.{Fielded, Titled, a_scalar, with_fields, a_union, an_enum, an_input, Word, a_schema, titled, a_directive, word_of, kind_of, location_of, implements_word, repeatable_word, is_reserved, Front, Fields, Inputs, of_field, of_directive, of_object, TypedInput, Values, Typed, input_type, field_type, Owner, on_schema, on_scalar, on_fielded, on_union, on_enum, on_object, on_input, on_field, on_value, Listing, implementing, uniting, locating, listing_then, is_separator, State, head, title, entitled, directive_sign, directive_title, directive_arguments, directive_on, listing, listing_led, listing_more, listing_next, roots, root_colon, root_name, fields, field_arguments, field_colon, inputs, input_colon, input_default, enum_values, in_directives, in_type, in_value, front_then, heading_then, heading_of, field_then, input_then, value_then, describe, begin_definition, at_head, entitle, close, at_fields, close_parens, close_braces, at_inputs, at_values, open_root, at_roots, after_directives, at_directives, after_listing, listing_more_of, listing_name, at_repeatable, at_entitled, at_default, after_type, advance}
use Rattle.gql_sdl.specs.Schemas.{Description, WrittenInput, WrittenField, WrittenValue, scalar, union, enum, input, directive}
use Rattle.gql_syntax.specs.Built.{type_tree}
use Rattle.gql_sdl.proofs.States.{lift, Own}

-- a step and that of a machine with a greater limit; nothing is too deep
abbrev pub Rises : (k : ℕ) → (step lifted : Result State Halt) → Type 0
Rises k (Ok s) r = r ≡ Ok (lift k s)
Rises k (Err unexpected) r = r ≡ Err unexpected
Rises k (Err too_deep) r = ⊥

-- the step does not depend on the limit
abbrev pub Keeps : (k : ℕ) → Result State Halt → Type 0
Keeps k r = Rises k r r

module _ (k : ℕ) where
  cond-keeps : (b : Bool) (x y : Result State Halt) → Keeps k x → Keeps k y → Keeps k (cond b x y)
  cond-keeps true x y h g = h
  cond-keeps false x y h g = g

  described-keeps : (d : Description) (e : List ℕ) (to : Description → State) → Keeps k (Ok (to (Some e))) → Keeps k (describe d e to)
  described-keeps None e to h = h
  described-keeps (Some d) e to h = refl

  begin-keeps : (f : Front) (w : Option Word) → Keeps k (begin_definition f w)
  begin-keeps f None = refl
  begin-keeps f (Some a_schema) = refl
  begin-keeps f (Some (titled x)) = refl
  begin-keeps f (Some a_directive) = refl

  pub at_head-keeps : (f : Front) (t : Tok) → Keeps k (at_head f t)
  at_head-keeps f (tok.text d) = described-keeps f.description d (λ d. head (record { before = f.before; description = d })) refl
  at_head-keeps f (tok.name n) = begin-keeps f (word_of n)
  at_head-keeps f t = refl

  entitle-keeps : (f : Front) (x : Titled) (n : List ℕ) → Keeps k (Ok (entitle f x n))
  entitle-keeps f a_scalar n = refl
  entitle-keeps f (with_fields x) n = refl
  entitle-keeps f a_union n = refl
  entitle-keeps f an_enum n = refl
  entitle-keeps f an_input n = refl

  closed-keeps : {A : Type 0} (all : List A) (d : Description) (to : State) → Keeps k (Ok to) → Keeps k (close all d to)
  closed-keeps [] d to h = refl
  closed-keeps (a ∷ more) None to h = h
  closed-keeps (a ∷ more) (Some d) to h = refl

  at_fields-keeps : (f : Fields) (fs : List WrittenField) (d : Description) (t : Tok) → Keeps k (at_fields f fs d t)
  at_fields-keeps f fs d (tok.text e) = described-keeps d e (λ d. fields f fs d) refl
  at_fields-keeps f fs d (tok.name n) = refl
  at_fields-keeps f fs d tok.close_brace = closed-keeps fs d _ refl
  at_fields-keeps f fs d t = refl

  close_parens-keeps : (i : Inputs) (ws : List WrittenInput) (d : Description) → Keeps k (close_parens i ws d)
  close_parens-keeps (of_field f) ws d = closed-keeps ws d _ refl
  close_parens-keeps (of_directive f n) ws d = closed-keeps ws d _ refl
  close_parens-keeps (of_object f n ds) ws d = refl

  close_braces-keeps : (i : Inputs) (ws : List WrittenInput) (d : Description) → Keeps k (close_braces i ws d)
  close_braces-keeps (of_field f) ws d = refl
  close_braces-keeps (of_directive f n) ws d = refl
  close_braces-keeps (of_object f n ds) ws d = closed-keeps ws d _ refl

  at_inputs-keeps : (i : Inputs) (ws : List WrittenInput) (d : Description) (t : Tok) → Keeps k (at_inputs i ws d t)
  at_inputs-keeps i ws d (tok.text e) = described-keeps d e (λ d. inputs i ws d) refl
  at_inputs-keeps i ws d (tok.name n) = refl
  at_inputs-keeps i ws d tok.close_paren = close_parens-keeps i ws d
  at_inputs-keeps i ws d tok.close_brace = close_braces-keeps i ws d
  at_inputs-keeps i ws d t = refl

  at_values-keeps : (v : Values) (vs : List WrittenValue) (d : Description) (t : Tok) → Keeps k (at_values v vs d t)
  at_values-keeps v vs d (tok.text e) = described-keeps d e (λ d. enum_values v vs d) refl
  at_values-keeps v vs d (tok.name n) = cond-keeps (is_reserved n) _ _ refl refl
  at_values-keeps v vs d tok.close_brace = closed-keeps vs d _ refl
  at_values-keeps v vs d t = refl

  open_root-keeps : (f : Front) (ds : List Directive) (rs : List Root) (o : Option Kind) → Keeps k (open_root f ds rs o)
  open_root-keeps f ds rs None = refl
  open_root-keeps f ds rs (Some x) = refl

  at_roots-keeps : (f : Front) (ds : List Directive) (rs : List Root) (t : Tok) → Keeps k (at_roots f ds rs t)
  at_roots-keeps f ds rs (tok.name n) = open_root-keeps f ds rs (kind_of n)
  at_roots-keeps f ds rs tok.close_brace = closed-keeps rs None _ refl
  at_roots-keeps f ds rs t = refl

  pub after-keeps : (o : Owner) (ds : List Directive) (t : Tok) → Keeps k (after_directives o ds t)
  after-keeps (on_schema f) ds tok.open_brace = refl
  after-keeps (on_schema f) ds t = refl
  after-keeps (on_scalar f n) ds t = at_head-keeps (front_then f (scalar n ds)) t
  after-keeps (on_fielded h) ds tok.open_brace = refl
  after-keeps (on_fielded h) ds t = at_head-keeps (heading_then h ds []) t
  after-keeps (on_union f n) ds tok.equals = refl
  after-keeps (on_union f n) ds t = at_head-keeps (front_then f (union n ds false [])) t
  after-keeps (on_enum f n) ds tok.open_brace = refl
  after-keeps (on_enum f n) ds t = at_head-keeps (front_then f (enum n ds [])) t
  after-keeps (on_object f n) ds tok.open_brace = refl
  after-keeps (on_object f n) ds t = at_head-keeps (front_then f (input n ds [])) t
  after-keeps (on_input i v) ds t = at_inputs-keeps i.input.inputs (input_then i v ds) None t
  after-keeps (on_field a u) ds t = at_fields-keeps a.field.fields (field_then a u ds) None t
  after-keeps (on_value v) ds t = at_values-keeps v.values (value_then v ds) None t

  pub at_directives-rises : (limit : ℕ) (o : Owner) (t : Tok) → Rises k (at_directives limit o t) (at_directives (k + limit) o t)
  at_directives-rises limit o tok.at_sign = refl
  at_directives-rises limit o t = after-keeps o [] t

  option-keeps : (leading : Bool) (f : Front) (n : List ℕ) (ws : List WrittenInput) (repeatable : Bool) (ls : List Location) (o : Option Location)
      → Keeps k (listing_more_of leading (option_map (λ l. locating f n ws repeatable (ls ++ l ∷ [])) o))
  option-keeps leading f n ws repeatable ls None = refl
  option-keeps leading f n ws repeatable ls (Some l) = refl

  listing_then-keeps : (leading : Bool) (l : Listing) (n : List ℕ) → Keeps k (listing_more_of leading (listing_then l n))
  listing_then-keeps leading (implementing f x m ns) n = refl
  listing_then-keeps leading (uniting f m ds ns) n = refl
  listing_then-keeps leading (locating f m ws r ls) n = option-keeps leading f m ws r ls (location_of n)

  listing_name-keeps : (leading : Bool) (l : Listing) (t : Tok) → Keeps k (listing_name leading l t)
  listing_name-keeps leading l (tok.name n) = listing_then-keeps leading l n
  listing_name-keeps leading l t = refl

  after_listing-rises : (limit : ℕ) (leading : Bool) (l : Listing) (t : Tok) → Rises k (after_listing limit leading l t) (after_listing (k + limit) leading l t)
  after_listing-rises limit leading (implementing f x n ns) t = at_directives-rises limit (on_fielded (heading_of f x n leading ns)) t
  after_listing-rises limit leading (uniting f n ds ns) t = at_head-keeps (front_then f (union n ds leading ns)) t
  after_listing-rises limit leading (locating f n ws r ls) t = at_head-keeps (front_then f (directive n ws r leading ls)) t

  cond-rises : (b : Bool) (x y v w : Result State Halt) → Rises k x v → Rises k y w → Rises k (cond b x y) (cond b v w)
  cond-rises true x y v w h g = h
  cond-rises false x y v w h g = g

  at_repeatable-keeps : (f : Front) (n : List ℕ) (ws : List WrittenInput) (r : Bool) (t : Tok) → Keeps k (at_repeatable f n ws r t)
  at_repeatable-keeps f n ws false (tok.name m) =
      cond-keeps (bytes_eq m repeatable_word) (Ok (directive_on f n ws true))
      (cond (bytes_eq m on_word) (Ok (listing (locating f n ws false []))) (Err unexpected)) refl
      (cond-keeps (bytes_eq m on_word) (Ok (listing (locating f n ws false []))) (Err unexpected) refl refl)
  at_repeatable-keeps f n ws true (tok.name m) = cond-keeps (bytes_eq m on_word) (Ok (listing (locating f n ws true []))) (Err unexpected) refl refl
  at_repeatable-keeps f n ws r t = refl

  at_entitled-rises : (limit : ℕ) (f : Front) (x : Fielded) (n : List ℕ) (t : Tok) → Rises k (at_entitled limit f x n t) (at_entitled (k + limit) f x n t)
  at_entitled-rises limit f x n (tok.name m) =
      cond-rises (bytes_eq m implements_word) (Ok (listing (implementing f x n []))) (at_directives limit (on_fielded (heading_of f x n false [])) (tok.name m))
      (Ok (listing (implementing f x n []))) (at_directives (k + limit) (on_fielded (heading_of f x n false [])) (tok.name m)) refl (at_directives-rises limit (on_fielded (heading_of f x n false [])) (tok.name m))
  at_entitled-rises limit f x n t = at_directives-rises limit (on_fielded (heading_of f x n false [])) t

  pub at_default-rises : (limit : ℕ) (i : TypedInput) (t : Tok) → Rises k (at_default limit i t) (at_default (k + limit) i t)
  at_default-rises limit i tok.equals = refl
  at_default-rises limit i t = at_directives-rises limit (on_input i None) t

  pub after_type-rises : (limit : ℕ) (y : Typed) (t : Ty) (x : Tok) → Rises k (after_type limit y t x) (after_type (k + limit) y t x)
  after_type-rises limit (input_type i) t x = at_default-rises limit (record { input = i; of = type_tree t }) x
  after_type-rises limit (field_type a) t x = at_directives-rises limit (on_field a (type_tree t)) x

  listing-rises : (limit : ℕ) (l : Listing) (t : Tok) → Keeps k (advance limit (listing l) t)
  listing-rises limit l t = cond-keeps (is_separator l t) (Ok (listing_led l)) (listing_name false l t) refl (listing_name-keeps false l t)

  listing_more-rises : (limit : ℕ) (leading : Bool) (l : Listing) (t : Tok) → Rises k (advance limit (listing_more leading l) t) (advance (k + limit) (listing_more leading l) t)
  listing_more-rises limit leading l t = cond-rises (is_separator l t) (Ok (listing_next leading l)) (after_listing limit leading l t) (Ok (listing_next leading l)) (after_listing (k + limit) leading l t) refl (after_listing-rises limit leading l t)

  pub own-rises : (limit : ℕ) (s : State) (t : Tok) → Own s → Rises k (advance limit s t) (advance (k + limit) s t)
  own-rises limit (head f) t h = at_head-keeps f t
  own-rises limit (title f x) (tok.name n) h = entitle-keeps f x n
  own-rises limit (title f x) t h = refl
  own-rises limit (entitled f x n) t h = at_entitled-rises limit f x n t
  own-rises limit (directive_sign f) tok.at_sign h = refl
  own-rises limit (directive_sign f) t h = refl
  own-rises limit (directive_title f) (tok.name n) h = refl
  own-rises limit (directive_title f) t h = refl
  own-rises limit (directive_arguments f n) tok.open_paren h = refl
  own-rises limit (directive_arguments f n) t h = at_repeatable-keeps f n [] false t
  own-rises limit (directive_on f n ws r) t h = at_repeatable-keeps f n ws r t
  own-rises limit (listing l) t h = listing-rises limit l t
  own-rises limit (listing_led l) t h = listing_name-keeps true l t
  own-rises limit (listing_more leading l) t h = listing_more-rises limit leading l t
  own-rises limit (listing_next leading l) t h = listing_name-keeps leading l t
  own-rises limit (roots f ds rs) t h = at_roots-keeps f ds rs t
  own-rises limit (root_colon f ds rs x) tok.colon h = refl
  own-rises limit (root_colon f ds rs x) t h = refl
  own-rises limit (root_name f ds rs x) (tok.name n) h = refl
  own-rises limit (root_name f ds rs x) t h = refl
  own-rises limit (fields f fs d) t h = at_fields-keeps f fs d t
  own-rises limit (field_arguments f) tok.open_paren h = refl
  own-rises limit (field_arguments f) tok.colon h = refl
  own-rises limit (field_arguments f) t h = refl
  own-rises limit (field_colon a) tok.colon h = refl
  own-rises limit (field_colon a) t h = refl
  own-rises limit (inputs i ws d) t h = at_inputs-keeps i ws d t
  own-rises limit (input_colon i) tok.colon h = refl
  own-rises limit (input_colon i) t h = refl
  own-rises limit (input_default i) t h = at_default-rises limit i t
  own-rises limit (enum_values v vs d) t h = at_values-keeps v vs d t
  own-rises limit (in_directives d) t h = absurd h
  own-rises limit (in_type y) t h = absurd h
  own-rises limit (in_value r) t h = absurd h
