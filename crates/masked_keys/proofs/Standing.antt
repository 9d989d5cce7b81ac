-- All that the masked form collects on the way of a read has keys of fields that stand in the text which is read.
use Rattle.std.proofs.Common.{◌≡◌, ℕ, zero, suc, Bool, true, false, List, [], ◌∷◌, Option, Some, None, refl, ap, sym, ◌∙◌, subst, cond, ◌||◌, option_map, unwrap_or, inl, inr}
use Rattle.plan_ir.specs.gql_ast.Sels as sels
use Rattle.plan_ir.specs.gql_ast.Sels.{Sels}
use Rattle.plan_ir.specs.gql_ast.declared.directive.Directive.{Directive}
use Rattle.plan_ir.specs.gql_plain.declared.ids.Conn.{Conn}
use Rattle.masked_keys.specs.TextKeys.{StandsIn, StandsInFragment, StandsWith, read_key_of}
use Rattle.plan_ir.proofs.store_model_laws.Least.{Each, each_append}
use Rattle.plan_ir.proofs.store_model_laws.LookedKeys.{KeyedItem, LooksWell, looked_keys}
use Rattle.plan_ir.specs.Expansion.{Project}
use Rattle.plan_ir.specs.Substitution.{Arguments}
use Rattle.plan_ir.specs.relay_marks.Connections.{connection_among}
use Rattle.plan_ir.specs.schema_tables.Types.{Text}
use Rattle.plan_ir.specs.schema_types.Environments.{Values, arguments_in_environment}
use Rattle.plan_ir.specs.schema_types.NameRules.{fragment_named}
use Rattle.plan_ir.specs.schema_types.Sites.{FragmentAt}
use Rattle.plan_ir.specs.store_model.Items.{Form, Item, asked, typename, leaf, one, many}
use Rattle.plan_ir.specs.store_model.Walks.{Slots, read_at, read_key}
use Rattle.plan_ir.specs.store_record.Keys.{field_key, handle_key}
use Rattle.relay_model.specs.Collection.{Part, ask_of, collect, collect_in, collect_with, connection_asked, enter_where, is_inline, is_open, pointer_to, spread_items}
use Rattle.relay_model.specs.Readings.{masked_setting}
use Rattle.relay_model.specs.plan_collect.Collecting.{applies, environment_inside, is_left_out}

-- the key that is asked for is the key of the field
key_asked : (own : Text) (xs : Arguments) (env : Values) (c : Option Conn)
    → unwrap_or (option_map (λ a. handle_key a.key a.filters (arguments_in_environment env xs)) (option_map connection_asked c)) own
    ≡ unwrap_or (option_map (λ a. handle_key a.key a.filters (arguments_in_environment env xs)) c) own
key_asked own xs env None = refl
key_asked own xs env (Some c) = refl

looks_well : (Q : Text → Type 0) (form : Form) (key : Text) → Q key → LooksWell Q form key
looks_well Q typename key h = tt
looks_well Q leaf key h = h
looks_well Q (one b) key h = h
looks_well Q (many b) key h = h

-- a list that stands under a condition
where_true : {X : Type 0} (P : X → Type 0) (b : Bool) (xs : List X) → (b ≡ true → Each P xs) → Each P (cond b xs [])
where_true P true xs h = h refl
where_true P false xs h = tt

where_false : {X : Type 0} (P : X → Type 0) (b : Bool) (xs : List X) → Each P xs → Each P (cond b [] xs)
where_false P true xs h = tt
where_false P false xs h = h

-- p is the project, `own` the operation's environment; Q holds of the keys that stand in what is read
module _ (p : Project) (own : Values) (Q : Text → Type 0) where
  -- the keys that stand in a part
  abbrev pub Holds : Part → Type 0
  Holds f = (key : Text) → StandsIn f.spreads p own f.environment f.selections key → Q key

  abbrev Keyed : List (Item Part) → Type 0
  Keyed items = Each (KeyedItem Q Holds) items

  -- selections give fields and spreads whose keys stand there, where a spread does
  module _ (T : Text) (k : ℕ) (env : Values) (enter : Text → List Directive → List (Item Part)) (Spread : Text → Text → List Directive → Type 0)
      (below : (s : Sels) (key : Text) → StandsIn k p own env s key → StandsWith (Spread key) env s key)
      (entered : (n : Text) (ds : List Directive) → ((key : Text) → Spread key n ds → Q key) → Keyed (enter n ds)) where
    collected : (s : Sels) → ((key : Text) → StandsWith (Spread key) env s key → Q key) → Keyed (collect_with enter p.defs T k env s)
    collected sels.end h = tt
    collected (sels.field a n xs ds s rest) h =
        each_append (KeyedItem Q Holds) (cond (is_left_out env ds) [] (asked (record { ask = ask_of p.defs T env a n xs ds; part = record { spreads = k; environment = env; selections = s } }) ∷ []))
        (collect_with enter p.defs T k env rest)
        (where_false (KeyedItem Q Holds) (is_left_out env ds) (asked (record { ask = ask_of p.defs T env a n xs ds; part = record { spreads = k; environment = env; selections = s } }) ∷ []) (
          (
            looks_well Q (ask_of p.defs T env a n xs ds).form (read_key (ask_of p.defs T env a n xs ds))
                (subst Q (sym (key_asked (field_key n (arguments_in_environment env xs)) xs env (connection_among ds))) (h (read_key_of env n xs ds) (inl refl))),
            (λ key stands. h key (inr (inl (below s key stands)))),
          ),
          tt,
        ))
        (collected rest (λ key stands. h key (inr (inr stands))))
    collected (sels.spread n ds rest) h =
        each_append (KeyedItem Q Holds) (cond (is_left_out env ds) [] (enter n ds)) (collect_with enter p.defs T k env rest)
        (where_false (KeyedItem Q Holds) (is_left_out env ds) (enter n ds) (entered n ds (λ key stands. h key (inl stands))))
        (collected rest (λ key stands. h key (inr stands)))
    collected (sels.inline o ds s rest) h =
        each_append (KeyedItem Q Holds) (cond (is_left_out env ds) [] (cond (applies p.defs o T) (collect_with enter p.defs T k env s) [])) (collect_with enter p.defs T k env rest)
        (where_false (KeyedItem Q Holds) (is_left_out env ds) (cond (applies p.defs o T) (collect_with enter p.defs T k env s) [])
        (where_true (KeyedItem Q Holds) (applies p.defs o T) (collect_with enter p.defs T k env s) (λ applied. collected s (λ key stands. h key (inl stands)))))
        (collected rest (λ key stands. h key (inr stands)))

  -- a spread that is not masked gives what stands in its fragment, any other one a pointer, which leads on where the fragment is `@inline`
  spread_keyed : (k : ℕ) (T : Text) (env : Values) (ds : List Directive) (f : FragmentAt) (unmasked : Bool) → is_open ds ≡ unmasked
      → ((key : Text) → StandsInFragment (λ inside g. StandsIn k p own inside g.selections key) own env ds (Some f) → Q key)
      → (((key : Text) → StandsIn k p own (environment_inside own env ds f) f.selections key → Q key) → Keyed (collect_in k (masked_setting p own) T (environment_inside own env ds f) f.selections))
      → Keyed (cond unmasked (collect_in k (masked_setting p own) T (environment_inside own env ds f) f.selections) (pointer_to (masked_setting p own) k env ds f ∷ []))
  spread_keyed k T env ds f true e h inside = inside (λ key stands. h key (ap (λ b. b || is_inline f) e, stands))
  spread_keyed k T env ds f false e h inside = ((λ inlined key stands. h key (ap (λ b. b || is_inline f) e ∙ inlined, stands)), tt)

  entered_keyed : (k : ℕ) (T : Text) (env : Values) (ds : List Directive) (found : Option FragmentAt)
      → ((key : Text) → StandsInFragment (λ inside g. StandsIn k p own inside g.selections key) own env ds found → Q key)
      → ((around : Values) (s : Sels) → ((key : Text) → StandsIn k p own around s key → Q key) → Keyed (collect_in k (masked_setting p own) T around s))
      → Keyed (enter_where (spread_items (masked_setting p own) k (λ q. collect_in k (masked_setting p own) T q.environment q.selections) env ds) p.defs T found)
  entered_keyed k T env ds None h inside = tt
  entered_keyed k T env ds (Some f) h inside =
      where_true (KeyedItem Q Holds) (applies p.defs (Some f.on.name) T)
      (spread_items (masked_setting p own) k (λ q. collect_in k (masked_setting p own) T q.environment q.selections) env ds f)
      (λ applied. spread_keyed k T env ds f (is_open ds) refl h (inside (environment_inside own env ds f) f.selections))

  collected_in : (k : ℕ) (T : Text) (env : Values) (s : Sels) → ((key : Text) → StandsIn k p own env s key → Q key) → Keyed (collect_in k (masked_setting p own) T env s)
  collected_in zero T env s h = collected T zero env (λ n ds. []) (λ key n ds. ⊥) (λ s key stands. stands) (λ n ds h. tt) s h
  collected_in (suc k) T env s h =
      collected T (suc k) env
      (λ n ds. enter_where (spread_items (masked_setting p own) k (λ q. collect_in k (masked_setting p own) T q.environment q.selections) env ds) p.defs T (fragment_named p.fragments n))
      (λ key n ds. StandsInFragment (λ inside f. StandsIn k p own inside f.selections key) own env ds (fragment_named p.fragments n))
      (λ s key stands. stands)
      (λ n ds h. entered_keyed k T env ds (fragment_named p.fragments n) h (λ around s h. collected_in k T around s h)) s h

-- each key that a read of a part looks at stands in it
pub keys_stand : (p : Project) (own : Values) (typed : Text → Text) (owner : Text) (m : Slots) (depth : ℕ) (types : List Text) (part : Part) (id : Text)
    → Each (λ looked. StandsIn part.spreads p own part.environment part.selections looked.1) (read_at (collect (masked_setting p own)) typed owner m depth types (part ∷ []) id).1.looked
keys_stand p own typed owner m depth types part id =
    looked_keys (StandsIn part.spreads p own part.environment part.selections) (Holds p own (StandsIn part.spreads p own part.environment part.selections)) (collect (masked_setting p own)) typed owner m
    (λ T f h. collected_in p own (StandsIn part.spreads p own part.environment part.selections) f.spreads T f.environment f.selections h) depth types (part ∷ []) id ((λ key stands. stands), tt)
