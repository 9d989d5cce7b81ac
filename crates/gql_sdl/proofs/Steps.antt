-- A step reads its token, opens not too much, and comes to a state of the same kind.
use Rattle.std.proofs.Common.{◌≡◌, ◌≤◌, ◌<◌, ℕ, Bool, true, false, cond, bytes_eq, List, [], ◌∷◌, ◌++◌, map, codes, Option, Some, None, option_map, Result, Ok, Err, refl, sym, ap, subst, ◌∙◌, arith}
use Rattle.std.specs.List.{AllByRecursion}
use Rattle.gql_syntax.specs.gql_lex.Toks as tok
use Rattle.gql_syntax.specs.gql_lex.Toks.{Tok}
use Rattle.gql_syntax.specs.gql_ast.Ty.{Ty}
use Rattle.gql_syntax.specs.gql_ast.Value.{Val}
use Rattle.gql_syntax.specs.Built.{type_tree}
use Rattle.gql_syntax.proofs.BuiltTrees.{ty_of-type_tree, value_of-value_tree}
use Rattle.gql_syntax.specs.gql_ast.declared.directive.Directive.{Directive}
use Rattle.gql_syntax.specs.gql_ast.declared.document.Kind.{Kind}
use Rattle.gql_syntax.specs.gql_ast.declared.location.Location.{Location}
use Rattle.gql_syntax.specs.gql_ast.declared.schema.Root.{Root}
use Rattle.gql_syntax.proofs.Laws.{Leveled}
use Rattle.gql_syntax.proofs.Standing.{mark_level}
use Rattle.gql_syntax.proofs.Shapes.{ShapedDirectives, ShapedType, ShapedValue}
use Rattle.gql_syntax.specs.Machine.{at_name, want, outer, want_type, whole}
use Rattle.gql_syntax.specs.Run.{Halt, unexpected, too_deep}
use Rattle.gql_syntax.specs.Spelling.{spell_directives, spell_type, spell_value}
use Rattle.gql_syntax.specs.Words.{on_word, kind_word}
use Rattle.gql_sdl.specs.Machine.{Fielded, an_object, an_interface, Titled, a_scalar, with_fields, a_union, an_enum, an_input, Word, a_schema, titled, a_directive, word_text, word_of, kind_of, location_of, implements_word, repeatable_word, is_reserved, Front, Heading, Fields, Inputs, of_field, of_directive, of_object, TypedInput, Values, Typed, input_type, field_type, Owner, on_schema, on_scalar, on_fielded, on_union, on_enum, on_object, on_input, on_field, on_value, Listing, implementing, uniting, locating, listing_names, separator, listing_then, State, head, title, entitled, directive_sign, directive_title, directive_arguments, directive_on, listing, listing_led, listing_more, listing_next, roots, root_colon, root_name, fields, field_arguments, field_colon, inputs, input_colon, input_default, enum_values, in_directives, in_type, in_value, front_then, fielded_written, heading_then, heading_of, field_then, input_then, value_then, directives_of, describe, begin_definition, at_head, entitle, close, at_fields, close_parens, close_braces, at_inputs, at_values, open_root, at_roots, after_directives, at_directives, after_listing, listing_more_of, listing_name, at_repeatable, at_entitled, at_default, typed_state, after_type, behind_default, advance}
use Rattle.gql_sdl.specs.Schemas.{location_word, Description, WrittenInput, WrittenField, WrittenValue, Written, schema, scalar, union, enum, input, directive, NotEmpty, spell_description, spell_inputs, spell_fields, spell_enum_values, spell_leading, spell_further, spell_written}
use Rattle.gql_sdl.proofs.Shapes.{ShapedInput, ShapedField, ShapedEnumValue, ShapedWritten}
use Rattle.gql_sdl.proofs.Fronts.{flat, definitions_front, head_front, fields_front, argued_front, inputs_front, input_front, typed_input_front, values_front, typed_front, owner_front, listing_front, listed_front, inputs-then, fields-then, values-then, roots-then, further-then, front-then, heading-then}
use Rattle.gql_sdl.proofs.Seats.{Led, Neat, ShapedDescribed, FrontSeat, HeadingSeat, FieldsSeat, InputsSeat, TypedInputSeat, ValuesSeat, TypedSeat, OwnerSeat, ListingSeat, IsEmpty, all-push}
use Rattle.gql_sdl.proofs.States.{so_far, Seated, Own}
use Rattle.gql_sdl.proofs.Spellings.{same_word, word_of-word, kind_of-word, location_of-word, is_reserved-enum_name}

-- the next state stands behind the token, which opens so much
pub record Forward (limit : ℕ) (front : List Leveled → List Leveled) (t : Tok) (level : ℕ) (next : State) : Type 0 where
  pub sound : (ts : List Leveled) → so_far next ts ≡ front ((t, level) ∷ ts)
  pub shallow : level ≤ limit
  pub seated : Seated limit next

abbrev pub Goes : (limit : ℕ) → (front : List Leveled → List Leveled) → Tok → (level : ℕ) → Result State Halt → Type 0
Goes limit front t level (Ok next) = Forward limit front t level next
Goes limit front t level (Err unexpected) = Unit {0}
Goes limit front t level (Err too_deep) = limit < level

pub goes-moves : (limit : ℕ) (front back : List Leveled → List Leveled) (t : Tok) (level : ℕ) (r : Result State Halt)
    → ((ts : List Leveled) → front ts ≡ back ts) → Goes limit front t level r → Goes limit back t level r
goes-moves limit front back t level (Ok next) e g = record { sound = λ ts. g.sound ts ∙ e ((t, level) ∷ ts); shallow = g.shallow; seated = g.seated }
goes-moves limit front back t level (Err unexpected) e g = tt
goes-moves limit front back t level (Err too_deep) e g = g

map-push : {A B : Type 0} (f : A → B) (xs : List A) (x : A) → map f (xs ++ x ∷ []) ≡ map f xs ++ f x ∷ []
map-push f [] x = refl
map-push f (y ∷ xs) x = ap (λ ys. f y ∷ ys) (map-push f xs x)

module _ (limit : ℕ) where
  goes : (front : List Leveled → List Leveled) (t : Tok) (next : State) → ((ts : List Leveled) → so_far next ts ≡ front (flat t ∷ ts)) → Seated limit next
      → Goes limit front t 0 (Ok next)
  goes front t next e h = record { sound = e; shallow = omega arith; seated = h }

  cond-goes : (front : List Leveled → List Leveled) (t : Tok) (b : Bool) (x y : Result State Halt) → (b ≡ true → Goes limit front t 0 x) → Goes limit front t 0 y
      → Goes limit front t 0 (cond b x y)
  cond-goes front t true x y g h = g refl
  cond-goes front t false x y g h = h

  -- ---- definitions

  described-goes : (front : List Leveled → List Leveled) (d : Description) (e : List ℕ) (to : Description → State)
      → ((d : Description) (ts : List Leveled) → so_far (to d) ts ≡ front (spell_description mark_level d ts)) → ((d : Description) → Seated limit (to d))
      → Goes limit (λ ts. front (spell_description mark_level d ts)) (tok.text e) 0 (describe d e to)
  described-goes front None e to s h = goes _ _ (to (Some e)) (s (Some e)) (h (Some e))
  described-goes front (Some d) e to s h = tt

  begin-goes : (f : Front) (n : List ℕ) (w : Option Word) → ((a : Word) → w ≡ Some a → n ≡ word_text a) → FrontSeat f
      → Goes limit (head_front f) (tok.name n) 0 (begin_definition f w)
  begin-goes f n None same h = tt
  begin-goes f n (Some a_schema) same h =
      goes _ _ (directives_of (on_schema f)) (λ ts. ap (λ m. head_front f (flat (tok.name m) ∷ ts)) (sym (same a_schema refl))) (refl, tt, h)
  begin-goes f n (Some (titled k)) same h =
      goes _ _ (title f k) (λ ts. ap (λ m. head_front f (flat (tok.name m) ∷ ts)) (sym (same (titled k) refl))) h
  begin-goes f n (Some a_directive) same h =
      goes _ _ (directive_sign f) (λ ts. ap (λ m. head_front f (flat (tok.name m) ∷ ts)) (sym (same a_directive refl))) h

  pub at_head-goes : (f : Front) (t : Tok) → FrontSeat f → Goes limit (head_front f) t 0 (at_head f t)
  at_head-goes f (tok.text d) h =
      described-goes (definitions_front f.before) f.description d (λ d. head (record { before = f.before; description = d })) (λ d ts. refl) (λ d. h)
  at_head-goes f (tok.name n) h = begin-goes f n (word_of n) (word_of-word n) h
  at_head-goes f t h = tt

  -- a definition is whole
  whole-goes : (front : List Leveled → List Leveled) (f : Front) (w : Written) (t : Tok)
      → ((ts : List Leveled) → head_front f (spell_written mark_level 0 w ts) ≡ front ts) → FrontSeat f → ShapedWritten w → Neat w
      → Goes limit front t 0 (at_head (front_then f w) t)
  whole-goes front f w t e h k n =
      goes-moves limit (head_front (front_then f w)) front t 0 (at_head (front_then f w) t) (λ ts. front-then f w ts ∙ e ts)
      (at_head-goes (front_then f w) t (all-push ShapedDescribed f.before (record { description = f.description; written = w }) h (k, n)))

  entitle-goes : (f : Front) (k : Titled) (n : List ℕ) → FrontSeat f
      → Goes limit (λ ts. so_far (title f k) ts) (tok.name n) 0 (Ok (entitle f k n))
  entitle-goes f a_scalar n h = goes _ _ (directives_of (on_scalar f n)) (λ ts. refl) (refl, tt, h)
  entitle-goes f (with_fields k) n h = goes _ _ (entitled f k n) (λ ts. refl) h
  entitle-goes f a_union n h = goes _ _ (directives_of (on_union f n)) (λ ts. refl) (refl, tt, h)
  entitle-goes f an_enum n h = goes _ _ (directives_of (on_enum f n)) (λ ts. refl) (refl, tt, h)
  entitle-goes f an_input n h = goes _ _ (directives_of (on_object f n)) (λ ts. refl) (refl, tt, h)

  -- ---- members

  fielded-formed : (k : Fielded) (n : List ℕ) (leading : Bool) (is : List (List ℕ)) (ds : List Directive) (fs : List WrittenField)
      → Led leading is → ShapedDirectives true ds → AllByRecursion ShapedField fs
      → ShapedWritten (fielded_written k n leading is ds fs) × Neat (fielded_written k n leading is ds fs)
  fielded-formed an_object n leading is ds fs h d f = ((d, f), h)
  fielded-formed an_interface n leading is ds fs h d f = ((d, f), h)

  pub heading-seat : (h : Heading) (ds : List Directive) (fs : List WrittenField) → HeadingSeat h → ShapedDirectives true ds → AllByRecursion ShapedField fs
      → FrontSeat (heading_then h ds fs)
  heading-seat h ds fs s d f =
      all-push ShapedDescribed h.front.before
      (record { description = h.front.description; written = fielded_written h.kind h.title h.leading h.implements ds fs })
      s.0 (fielded-formed h.kind h.title h.leading h.implements ds fs s.1 d f)

  close_fields-goes : (f : Fields) (fs : List WrittenField) (d : Description) → FieldsSeat f → AllByRecursion ShapedField fs
      → Goes limit (λ ts. so_far (fields f fs d) ts) tok.close_brace 0 (close fs d (head (heading_then f.heading f.directives fs)))
  close_fields-goes f [] d h k = tt
  close_fields-goes f (e ∷ fs) None h k =
      goes _ _ (head (heading_then f.heading f.directives (e ∷ fs))) (λ ts. heading-then f.heading f.directives (e ∷ fs) ts)
      (heading-seat f.heading f.directives (e ∷ fs) h.0 h.1 k)
  close_fields-goes f (e ∷ fs) (Some d) h k = tt

  at_fields-goes : (f : Fields) (fs : List WrittenField) (d : Description) (t : Tok) → FieldsSeat f → AllByRecursion ShapedField fs
      → Goes limit (λ ts. so_far (fields f fs d) ts) t 0 (at_fields f fs d t)
  at_fields-goes f fs d (tok.text e) h k =
      described-goes (λ ts. fields_front f (spell_fields mark_level fs ts)) d e (λ d. fields f fs d) (λ d ts. refl) (λ d. (h, k))
  at_fields-goes f fs d (tok.name n) h k = goes _ _ (field_arguments (record { fields = f; before = fs; description = d; title = n })) (λ ts. refl) (h, k)
  at_fields-goes f fs d tok.close_brace h k = close_fields-goes f fs d h k
  at_fields-goes f fs d t h k = tt

  close_parens-goes : (i : Inputs) (ws : List WrittenInput) (d : Description) → InputsSeat i → AllByRecursion ShapedInput ws
      → Goes limit (λ ts. so_far (inputs i ws d) ts) tok.close_paren 0 (close_parens i ws d)
  close_parens-goes (of_field f) [] d h k = tt
  close_parens-goes (of_field f) (w ∷ ws) None h k = goes _ _ (field_colon (record { field = f; arguments = w ∷ ws })) (λ ts. refl) (h, k)
  close_parens-goes (of_field f) (w ∷ ws) (Some d) h k = tt
  close_parens-goes (of_directive f n) [] d h k = tt
  close_parens-goes (of_directive f n) (w ∷ ws) None h k = goes _ _ (directive_on f n (w ∷ ws) false) (λ ts. refl) (h, k)
  close_parens-goes (of_directive f n) (w ∷ ws) (Some d) h k = tt
  close_parens-goes (of_object f n ds) ws d h k = tt

  close_braces-goes : (i : Inputs) (ws : List WrittenInput) (d : Description) → InputsSeat i → AllByRecursion ShapedInput ws
      → Goes limit (λ ts. so_far (inputs i ws d) ts) tok.close_brace 0 (close_braces i ws d)
  close_braces-goes (of_field f) ws d h k = tt
  close_braces-goes (of_directive f n) ws d h k = tt
  close_braces-goes (of_object f n ds) [] d h k = tt
  close_braces-goes (of_object f n ds) (w ∷ ws) None h k =
      goes _ _ (head (front_then f (input n ds (w ∷ ws)))) (λ ts. front-then f (input n ds (w ∷ ws)) ts)
      (all-push ShapedDescribed f.before (record { description = f.description; written = input n ds (w ∷ ws) }) h.0 ((h.1, k), tt))
  close_braces-goes (of_object f n ds) (w ∷ ws) (Some d) h k = tt

  at_inputs-goes : (i : Inputs) (ws : List WrittenInput) (d : Description) (t : Tok) → InputsSeat i → AllByRecursion ShapedInput ws
      → Goes limit (λ ts. so_far (inputs i ws d) ts) t 0 (at_inputs i ws d t)
  at_inputs-goes i ws d (tok.text e) h k =
      described-goes (λ ts. inputs_front i (spell_inputs mark_level ws ts)) d e (λ d. inputs i ws d) (λ d ts. refl) (λ d. (h, k))
  at_inputs-goes i ws d (tok.name n) h k = goes _ _ (input_colon (record { inputs = i; before = ws; description = d; title = n })) (λ ts. refl) (h, k)
  at_inputs-goes i ws d tok.close_paren h k = close_parens-goes i ws d h k
  at_inputs-goes i ws d tok.close_brace h k = close_braces-goes i ws d h k
  at_inputs-goes i ws d t h k = tt

  open_value-goes : (v : Values) (vs : List WrittenValue) (d : Description) (n : List ℕ) (b : Bool) → is_reserved n ≡ b → ValuesSeat v
      → AllByRecursion ShapedEnumValue vs
      → Goes limit (λ ts. so_far (enum_values v vs d) ts) (tok.name n) 0
      (cond b (Err unexpected) (Ok (directives_of (on_value (record { values = v; before = vs; description = d; title = n })))))
  open_value-goes v vs d n true e h k = tt
  open_value-goes v vs d n false e h k =
      goes _ _ (directives_of (on_value (record { values = v; before = vs; description = d; title = n }))) (λ ts. refl)
      (refl, tt, (h, k, is_reserved-enum_name n e))

  close_values-goes : (v : Values) (vs : List WrittenValue) (d : Description) → ValuesSeat v → AllByRecursion ShapedEnumValue vs
      → Goes limit (λ ts. so_far (enum_values v vs d) ts) tok.close_brace 0 (close vs d (head (front_then v.front (enum v.title v.directives vs))))
  close_values-goes v [] d h k = tt
  close_values-goes v (w ∷ vs) None h k =
      goes _ _ (head (front_then v.front (enum v.title v.directives (w ∷ vs)))) (λ ts. front-then v.front (enum v.title v.directives (w ∷ vs)) ts)
      (all-push ShapedDescribed v.front.before (record { description = v.front.description; written = enum v.title v.directives (w ∷ vs) }) h.0 ((h.1, k), tt))
  close_values-goes v (w ∷ vs) (Some d) h k = tt

  at_values-goes : (v : Values) (vs : List WrittenValue) (d : Description) (t : Tok) → ValuesSeat v → AllByRecursion ShapedEnumValue vs
      → Goes limit (λ ts. so_far (enum_values v vs d) ts) t 0 (at_values v vs d t)
  at_values-goes v vs d (tok.text e) h k =
      described-goes (λ ts. values_front v (spell_enum_values mark_level vs ts)) d e (λ d. enum_values v vs d) (λ d ts. refl) (λ d. (h, k))
  at_values-goes v vs d (tok.name n) h k = open_value-goes v vs d n (is_reserved n) refl h k
  at_values-goes v vs d tok.close_brace h k = close_values-goes v vs d h k
  at_values-goes v vs d t h k = tt

  open_root-goes : (f : Front) (ds : List Directive) (rs : List Root) (n : List ℕ) (o : Option Kind) → ((k : Kind) → o ≡ Some k → n ≡ kind_word k)
      → FrontSeat f → ShapedDirectives true ds → Goes limit (λ ts. so_far (roots f ds rs) ts) (tok.name n) 0 (open_root f ds rs o)
  open_root-goes f ds rs n None same h d = tt
  open_root-goes f ds rs n (Some k) same h d =
      goes _ _ (root_colon f ds rs k) (λ ts. ap (λ m. so_far (roots f ds rs) (flat (tok.name m) ∷ ts)) (sym (same k refl))) (h, d)

  close_roots-goes : (f : Front) (ds : List Directive) (rs : List Root) → FrontSeat f → ShapedDirectives true ds
      → Goes limit (λ ts. so_far (roots f ds rs) ts) tok.close_brace 0 (close rs None (head (front_then f (schema ds rs))))
  close_roots-goes f ds [] h d = tt
  close_roots-goes f ds (r ∷ rs) h d =
      goes _ _ (head (front_then f (schema ds (r ∷ rs)))) (λ ts. front-then f (schema ds (r ∷ rs)) ts)
      (all-push ShapedDescribed f.before (record { description = f.description; written = schema ds (r ∷ rs) }) h ((d, tt), tt))

  at_roots-goes : (f : Front) (ds : List Directive) (rs : List Root) (t : Tok) → FrontSeat f → ShapedDirectives true ds
      → Goes limit (λ ts. so_far (roots f ds rs) ts) t 0 (at_roots f ds rs t)
  at_roots-goes f ds rs (tok.name n) h d = open_root-goes f ds rs n (kind_of n) (kind_of-word n) h d
  at_roots-goes f ds rs tok.close_brace h d = close_roots-goes f ds rs h d
  at_roots-goes f ds rs t h d = tt

  -- ---- where directives have ended

  pub after-goes : (o : Owner) (ds : List Directive) (t : Tok) → OwnerSeat o → ShapedDirectives true ds
      → Goes limit (λ ts. owner_front o (spell_directives mark_level ds ts)) t 0 (after_directives o ds t)
  after-goes (on_schema f) ds tok.open_brace h d = goes _ _ (roots f ds []) (λ ts. refl) (h, d)
  after-goes (on_schema f) ds t h d = tt
  after-goes (on_scalar f n) ds t h d = whole-goes _ f (scalar n ds) t (λ ts. refl) h d tt
  after-goes (on_fielded k) ds tok.open_brace h d = goes _ _ (fields (record { heading = k; directives = ds }) [] None) (λ ts. refl) ((h, d), tt)
  after-goes (on_fielded k) ds t h d =
      goes-moves limit (head_front (heading_then k ds [])) _ t 0 (at_head (heading_then k ds []) t) (λ ts. heading-then k ds [] ts)
      (at_head-goes (heading_then k ds []) t (heading-seat k ds [] h d tt))
  after-goes (on_union f n) ds tok.equals h d = goes _ _ (listing (uniting f n ds [])) (λ ts. refl) ((h, d), tt)
  after-goes (on_union f n) ds t h d = whole-goes _ f (union n ds false []) t (λ ts. refl) h d tt
  after-goes (on_enum f n) ds tok.open_brace h d =
      goes _ _ (enum_values (record { front = f; title = n; directives = ds }) [] None) (λ ts. refl) ((h, d), tt)
  after-goes (on_enum f n) ds t h d = whole-goes _ f (enum n ds []) t (λ ts. refl) h (d, tt) tt
  after-goes (on_object f n) ds tok.open_brace h d = goes _ _ (inputs (of_object f n ds) [] None) (λ ts. refl) ((h, d), tt)
  after-goes (on_object f n) ds t h d = whole-goes _ f (input n ds []) t (λ ts. refl) h (d, tt) tt
  after-goes (on_input i v) ds t h d =
      goes-moves limit (λ ts. so_far (inputs i.input.inputs (input_then i v ds) None) ts) _ t 0 (at_inputs i.input.inputs (input_then i v ds) None t)
      (λ ts. ap (inputs_front i.input.inputs) (inputs-then mark_level i.input.before _ ts))
      (at_inputs-goes i.input.inputs (input_then i v ds) None t h.0.0.0 (all-push ShapedInput i.input.before _ h.0.0.1 (h.0.1, h.1, d)))
  after-goes (on_field a u) ds t h d =
      goes-moves limit (λ ts. so_far (fields a.field.fields (field_then a u ds) None) ts) _ t 0 (at_fields a.field.fields (field_then a u ds) None t)
      (λ ts. ap (fields_front a.field.fields) (fields-then mark_level a.field.before _ ts))
      (at_fields-goes a.field.fields (field_then a u ds) None t h.0.0.0 (all-push ShapedField a.field.before _ h.0.0.1 (h.0.1, h.1, d)))
  after-goes (on_value v) ds t h d =
      goes-moves limit (λ ts. so_far (enum_values v.values (value_then v ds) None) ts) _ t 0 (at_values v.values (value_then v ds) None t)
      (λ ts. ap (values_front v.values) (values-then mark_level v.before _ ts))
      (at_values-goes v.values (value_then v ds) None t h.0 (all-push ShapedEnumValue v.before _ h.1 (h.2, d)))

  pub at_directives-goes : (o : Owner) (t : Tok) → OwnerSeat o → Goes limit (owner_front o) t 0 (at_directives limit o t)
  at_directives-goes o tok.at_sign h = goes _ _ (in_directives (at_name true [] o)) (λ ts. refl) (refl, tt, h)
  at_directives-goes o t h = after-goes o [] t h tt

  -- ---- lists with separators

  option-goes : (front : List Leveled → List Leveled) (t : Tok) (leading : Bool) (f : Front) (n : List ℕ) (ws : List WrittenInput) (repeatable : Bool)
      (ls : List Location) (o : Option Location)
      → ((l : Location) → o ≡ Some l → Goes limit front t 0 (Ok (listing_more leading (locating f n ws repeatable (ls ++ l ∷ [])))))
      → Goes limit front t 0 (listing_more_of leading (option_map (λ l. locating f n ws repeatable (ls ++ l ∷ [])) o))
  option-goes front t leading f n ws repeatable ls None g = tt
  option-goes front t leading f n ws repeatable ls (Some l) g = g l refl

  listing_first-goes : (leading : Bool) (l : Listing) (n : List ℕ) → ListingSeat l → IsEmpty (listing_names l)
      → Goes limit (λ ts. listing_front l (spell_leading mark_level (separator l) leading ts)) (tok.name n) 0 (listing_more_of leading (listing_then l n))
  listing_first-goes leading (implementing f k m []) n h e = goes _ _ (listing_more leading (implementing f k m (n ∷ []))) (λ ts. refl) (h, tt)
  listing_first-goes leading (implementing f k m (i ∷ is)) n h e = absurd e
  listing_first-goes leading (uniting f m ds []) n h e = goes _ _ (listing_more leading (uniting f m ds (n ∷ []))) (λ ts. refl) (h, tt)
  listing_first-goes leading (uniting f m ds (i ∷ is)) n h e = absurd e
  listing_first-goes leading (locating f m ws repeatable []) n h e =
      option-goes _ _ leading f m ws repeatable [] (location_of n) (λ l same.
      goes _ _ (listing_more leading (locating f m ws repeatable (l ∷ [])))
      (λ ts. ap (λ w. listing_front (locating f m ws repeatable []) (spell_leading mark_level tok.bar leading (flat (tok.name w) ∷ ts)))
      (sym (location_of-word n l same))) (h, tt))
  listing_first-goes leading (locating f m ws repeatable (i ∷ is)) n h e = absurd e

  listing_further-goes : (leading : Bool) (l : Listing) (n : List ℕ) → ListingSeat l → NotEmpty (listing_names l)
      → Goes limit (λ ts. so_far (listing_next leading l) ts) (tok.name n) 0 (listing_more_of leading (listing_then l n))
  listing_further-goes leading (implementing f k m []) n h e = absurd e
  listing_further-goes leading (implementing f k m (i ∷ is)) n h e =
      goes _ _ (listing_more leading (implementing f k m (i ∷ is ++ n ∷ [])))
      (λ ts. ap (λ xs. listing_front (implementing f k m []) (spell_leading mark_level tok.ampersand leading (flat (tok.name i) ∷ xs)))
      (further-then mark_level tok.ampersand 0 is n ts)) (h, tt)
  listing_further-goes leading (uniting f m ds []) n h e = absurd e
  listing_further-goes leading (uniting f m ds (i ∷ is)) n h e =
      goes _ _ (listing_more leading (uniting f m ds (i ∷ is ++ n ∷ [])))
      (λ ts. ap (λ xs. listing_front (uniting f m ds []) (spell_leading mark_level tok.bar leading (flat (tok.name i) ∷ xs)))
      (further-then mark_level tok.bar 0 is n ts)) (h, tt)
  listing_further-goes leading (locating f m ws repeatable []) n h e = absurd e
  listing_further-goes leading (locating f m ws repeatable (i ∷ is)) n h e =
      option-goes _ _ leading f m ws repeatable (i ∷ is) (location_of n) (λ l same.
      goes _ _ (listing_more leading (locating f m ws repeatable (i ∷ is ++ l ∷ [])))
      (λ ts. ap (λ xs. listing_front (locating f m ws repeatable []) (spell_leading mark_level tok.bar leading (flat (tok.name (location_word i)) ∷ xs)))
      (ap (λ xs. spell_further mark_level tok.bar 0 xs ts) (map-push location_word is l)
      ∙ further-then mark_level tok.bar 0 (map location_word is) (location_word l) ts
      ∙ ap (λ w. spell_further mark_level tok.bar 0 (map location_word is) (flat tok.bar ∷ flat (tok.name w) ∷ ts)) (sym (location_of-word n l same))))
      (h, tt))

  after_implements-goes : (leading : Bool) (f : Front) (k : Fielded) (n : List ℕ) (ns : List (List ℕ)) (t : Tok) → FrontSeat f → NotEmpty ns
      → Goes limit (λ ts. listed_front leading (implementing f k n ns) ts) t 0 (at_directives limit (on_fielded (heading_of f k n leading ns)) t)
  after_implements-goes leading f k n [] t h e = absurd e
  after_implements-goes true f k n (i ∷ is) t h e = at_directives-goes (on_fielded (heading_of f k n true (i ∷ is))) t (h, tt)
  after_implements-goes false f k n (i ∷ is) t h e = at_directives-goes (on_fielded (heading_of f k n false (i ∷ is))) t (h, tt)

  after_listing-goes : (leading : Bool) (l : Listing) (t : Tok) → ListingSeat l → NotEmpty (listing_names l)
      → Goes limit (λ ts. listed_front leading l ts) t 0 (after_listing limit leading l t)
  after_listing-goes leading (implementing f k n ns) t h e = after_implements-goes leading f k n ns t h e
  after_listing-goes leading (uniting f n ds []) t h e = absurd e
  after_listing-goes true (uniting f n ds (m ∷ ms)) t h e = whole-goes _ f (union n ds true (m ∷ ms)) t (λ ts. refl) h.0 h.1 tt
  after_listing-goes false (uniting f n ds (m ∷ ms)) t h e = whole-goes _ f (union n ds false (m ∷ ms)) t (λ ts. refl) h.0 h.1 tt
  after_listing-goes leading (locating f n ws repeatable []) t h e = absurd e
  after_listing-goes leading (locating f n ws repeatable (l ∷ ls)) t h e =
      whole-goes _ f (directive n ws repeatable leading (l ∷ ls)) t (λ ts. refl) h.0 (h.1, tt) tt

  name-goes : (leading : Bool) (l : Listing) (front : List Leveled → List Leveled) (t : Tok)
      → ((n : List ℕ) → Goes limit front (tok.name n) 0 (listing_more_of leading (listing_then l n))) → Goes limit front t 0 (listing_name leading l t)
  name-goes leading l front (tok.name n) g = g n
  name-goes leading l front t g = tt

  listing-goes : (l : Listing) (t : Tok) → ListingSeat l → IsEmpty (listing_names l) → Goes limit (λ ts. listing_front l ts) t 0 (advance limit (listing l) t)
  listing-goes (implementing f k n ns) tok.ampersand h e = goes _ _ (listing_led (implementing f k n ns)) (λ ts. refl) (h, e)
  listing-goes (implementing f k n ns) t h e = name-goes false (implementing f k n ns) _ t (λ m. listing_first-goes false (implementing f k n ns) m h e)
  listing-goes (uniting f n ds ns) tok.bar h e = goes _ _ (listing_led (uniting f n ds ns)) (λ ts. refl) (h, e)
  listing-goes (uniting f n ds ns) t h e = name-goes false (uniting f n ds ns) _ t (λ m. listing_first-goes false (uniting f n ds ns) m h e)
  listing-goes (locating f n ws r ls) tok.bar h e = goes _ _ (listing_led (locating f n ws r ls)) (λ ts. refl) (h, e)
  listing-goes (locating f n ws r ls) t h e = name-goes false (locating f n ws r ls) _ t (λ m. listing_first-goes false (locating f n ws r ls) m h e)

  listing_more-goes : (leading : Bool) (l : Listing) (t : Tok) → ListingSeat l → NotEmpty (listing_names l)
      → Goes limit (λ ts. listed_front leading l ts) t 0 (advance limit (listing_more leading l) t)
  listing_more-goes leading (implementing f k n ns) tok.ampersand h e = goes _ _ (listing_next leading (implementing f k n ns)) (λ ts. refl) (h, e)
  listing_more-goes leading (implementing f k n ns) t h e = after_listing-goes leading (implementing f k n ns) t h e
  listing_more-goes leading (uniting f n ds ns) tok.bar h e = goes _ _ (listing_next leading (uniting f n ds ns)) (λ ts. refl) (h, e)
  listing_more-goes leading (uniting f n ds ns) t h e = after_listing-goes leading (uniting f n ds ns) t h e
  listing_more-goes leading (locating f n ws r ls) tok.bar h e = goes _ _ (listing_next leading (locating f n ws r ls)) (λ ts. refl) (h, e)
  listing_more-goes leading (locating f n ws r ls) t h e = after_listing-goes leading (locating f n ws r ls) t h e

  -- ---- words that may follow

  at_repeatable-goes : (f : Front) (n : List ℕ) (ws : List WrittenInput) (r : Bool) (t : Tok) → FrontSeat f → AllByRecursion ShapedInput ws
      → Goes limit (λ ts. so_far (directive_on f n ws r) ts) t 0 (at_repeatable f n ws r t)
  at_repeatable-goes f n ws false (tok.name m) h k =
      cond-goes _ _ (bytes_eq m repeatable_word) _ _
      (λ e. goes _ _ (directive_on f n ws true) (λ ts. ap (λ w. so_far (directive_on f n ws false) (flat (tok.name w) ∷ ts)) (sym (same_word m _ e))) (h, k))
      (cond-goes _ _ (bytes_eq m on_word) _ _
      (λ e. goes _ _ (listing (locating f n ws false [])) (λ ts. ap (λ w. so_far (directive_on f n ws false) (flat (tok.name w) ∷ ts)) (sym (same_word m _ e))) ((h, k), tt))
      tt)
  at_repeatable-goes f n ws true (tok.name m) h k =
      cond-goes _ _ (bytes_eq m on_word) _ _
      (λ e. goes _ _ (listing (locating f n ws true [])) (λ ts. ap (λ w. so_far (directive_on f n ws true) (flat (tok.name w) ∷ ts)) (sym (same_word m _ e))) ((h, k), tt))
      tt
  at_repeatable-goes f n ws r t h k = tt

  at_entitled-goes : (f : Front) (k : Fielded) (n : List ℕ) (t : Tok) → FrontSeat f
      → Goes limit (λ ts. so_far (entitled f k n) ts) t 0 (at_entitled limit f k n t)
  at_entitled-goes f k n (tok.name m) h =
      cond-goes _ _ (bytes_eq m implements_word) _ _
      (λ e. goes _ _ (listing (implementing f k n [])) (λ ts. ap (λ w. so_far (entitled f k n) (flat (tok.name w) ∷ ts)) (sym (same_word m _ e))) (h, tt))
      (at_directives-goes (on_fielded (heading_of f k n false [])) (tok.name m) (h, tt))
  at_entitled-goes f k n t h = at_directives-goes (on_fielded (heading_of f k n false [])) t (h, tt)

  -- ---- types and defaults of inputs

  at_default-goes : (i : TypedInput) (t : Tok) → TypedInputSeat i → Goes limit (λ ts. typed_input_front i ts) t 0 (at_default limit i t)
  at_default-goes i tok.equals h = goes _ _ (in_value (want true limit (outer i))) (λ ts. refl) (omega arith, refl, h)
  at_default-goes i t h = at_directives-goes (on_input i None) t (h, tt)

  -- what stands behind a type
  pub after_type-goes : (y : Typed) (t : Ty) (x : Tok) → TypedSeat y → ShapedType t
      → Goes limit (λ ts. typed_front y (spell_type mark_level t 0 0 ts)) x 0 (after_type limit y t x)
  after_type-goes (input_type i) t x h k =
      goes-moves limit (typed_input_front (record { input = i; of = type_tree t })) _ x 0 (at_default limit (record { input = i; of = type_tree t }) x)
      (λ ts. ap (λ t. input_front i (flat tok.colon ∷ spell_type mark_level t 0 0 ts)) (ty_of-type_tree t))
      (at_default-goes (record { input = i; of = type_tree t }) x (h, subst ShapedType (sym (ty_of-type_tree t)) k))
  after_type-goes (field_type a) t x h k =
      goes-moves limit (owner_front (on_field a (type_tree t))) _ x 0 (at_directives limit (on_field a (type_tree t)) x)
      (λ ts. ap (λ t. argued_front a (flat tok.colon ∷ spell_type mark_level t 0 0 ts)) (ty_of-type_tree t))
      (at_directives-goes (on_field a (type_tree t)) x (h, subst ShapedType (sym (ty_of-type_tree t)) k))

  -- the state behind a type
  pub typed_state-front : (y : Typed) (t : Ty) (ts : List Leveled) → so_far (typed_state y t) ts ≡ typed_front y (spell_type mark_level t 0 0 ts)
  typed_state-front (input_type i) t ts = ap (λ t. input_front i (flat tok.colon ∷ spell_type mark_level t 0 0 ts)) (ty_of-type_tree t)
  typed_state-front (field_type a) t ts = ap (λ t. argued_front a (flat tok.colon ∷ spell_type mark_level t 0 0 ts)) (ty_of-type_tree t)

  pub typed_state-seated : (y : Typed) (t : Ty) → TypedSeat y → ShapedType t → Seated limit (typed_state y t)
  typed_state-seated (input_type i) t h k = (h, subst ShapedType (sym (ty_of-type_tree t)) k)
  typed_state-seated (field_type a) t h k = (refl, tt, (h, subst ShapedType (sym (ty_of-type_tree t)) k))

  -- the state behind a value
  pub valued-front : (i : TypedInput) (v : Val) (ts : List Leveled)
      → so_far (behind_default i v) ts ≡ typed_input_front i (flat tok.equals ∷ spell_value mark_level v 0 ts)
  valued-front i v ts = ap (λ v. typed_input_front i (flat tok.equals ∷ spell_value mark_level v 0 ts)) (value_of-value_tree v)

  pub valued-seated : (i : TypedInput) (v : Val) → TypedInputSeat i → ShapedValue true v → Seated limit (behind_default i v)
  valued-seated i v h k = (refl, tt, (h, subst (ShapedValue true) (sym (value_of-value_tree v)) k))

  -- ---- the states that read no value, type or directive

  pub own-goes : (s : State) (t : Tok) → Own s → Seated limit s → Goes limit (λ ts. so_far s ts) t 0 (advance limit s t)
  own-goes (head f) t o h = at_head-goes f t h
  own-goes (title f k) (tok.name n) o h = entitle-goes f k n h
  own-goes (title f k) t o h = tt
  own-goes (entitled f k n) t o h = at_entitled-goes f k n t h
  own-goes (directive_sign f) tok.at_sign o h = goes _ _ (directive_title f) (λ ts. refl) h
  own-goes (directive_sign f) t o h = tt
  own-goes (directive_title f) (tok.name n) o h = goes _ _ (directive_arguments f n) (λ ts. refl) h
  own-goes (directive_title f) t o h = tt
  own-goes (directive_arguments f n) tok.open_paren o h = goes _ _ (inputs (of_directive f n) [] None) (λ ts. refl) (h, tt)
  own-goes (directive_arguments f n) t o h = at_repeatable-goes f n [] false t h tt
  own-goes (directive_on f n ws r) t o h = at_repeatable-goes f n ws r t h.0 h.1
  own-goes (listing l) t o h = listing-goes l t h.0 h.1
  own-goes (listing_led l) t o h = name-goes true l _ t (λ n. listing_first-goes true l n h.0 h.1)
  own-goes (listing_more leading l) t o h = listing_more-goes leading l t h.0 h.1
  own-goes (listing_next leading l) t o h = name-goes leading l _ t (λ n. listing_further-goes leading l n h.0 h.1)
  own-goes (roots f ds rs) t o h = at_roots-goes f ds rs t h.0 h.1
  own-goes (root_colon f ds rs k) tok.colon o h = goes _ _ (root_name f ds rs k) (λ ts. refl) h
  own-goes (root_colon f ds rs k) t o h = tt
  own-goes (root_name f ds rs k) (tok.name n) o h =
      goes _ _ (roots f ds (rs ++ record { kind = k; name = n } ∷ []))
      (λ ts. ap (λ xs. head_front f (flat (tok.name (codes "schema")) ∷ spell_directives mark_level ds (flat tok.open_brace ∷ xs)))
      (roots-then mark_level rs (record { kind = k; name = n }) ts)) h
  own-goes (root_name f ds rs k) t o h = tt
  own-goes (fields f fs d) t o h = at_fields-goes f fs d t h.0 h.1
  own-goes (field_arguments f) tok.open_paren o h = goes _ _ (inputs (of_field f) [] None) (λ ts. refl) (h, tt)
  own-goes (field_arguments f) tok.colon o h =
      goes _ _ (in_type (want_type limit (whole (field_type (record { field = f; arguments = [] }))))) (λ ts. refl) (omega arith, (h, tt))
  own-goes (field_arguments f) t o h = tt
  own-goes (field_colon a) tok.colon o h = goes _ _ (in_type (want_type limit (whole (field_type a)))) (λ ts. refl) (omega arith, h)
  own-goes (field_colon a) t o h = tt
  own-goes (inputs i ws d) t o h = at_inputs-goes i ws d t h.0 h.1
  own-goes (input_colon i) tok.colon o h = goes _ _ (in_type (want_type limit (whole (input_type i)))) (λ ts. refl) (omega arith, h)
  own-goes (input_colon i) t o h = tt
  own-goes (input_default i) t o h = at_default-goes i t h
  own-goes (enum_values v vs d) t o h = at_values-goes v vs d t h.0 h.1
  own-goes (in_directives d) t o h = absurd o
  own-goes (in_type y) t o h = absurd o
  own-goes (in_value r) t o h = absurd o
