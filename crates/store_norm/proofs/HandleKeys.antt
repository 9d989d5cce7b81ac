-- The pages that a response gives stand under keys of connections.
use Rattle.std.proofs.Common.{◌≡◌, true, List, [], ◌∷◌, ◌++◌, Option, Some, None, codes, nat_eq, unwrap_or, refl, sym, ◌∙◌}
use Rattle.std.specs.List.{starts_with}
use Rattle.plan_ir.proofs.gql_plain_laws.SortedTexts.{has_text-sorted_texts}
use Rattle.plan_ir.specs.gql_plain.Order.{sorted_texts}
use Rattle.serde_json.specs.Data as J
use Rattle.plan_ir.specs.store_record.Keys.{Text, Arguments, key_with, handle_name, without_nulls, connection_arguments}
use Rattle.plan_ir.specs.store_record.declared.field.Field.{Field}
use Rattle.plan_ir.proofs.store_model_laws.Least.{Each, each_append, each_from, of_member}
use Rattle.plan_ir.specs.store_model.Items.{Form, typename, leaf, one, many, Ask, Connection, Group, asks, parts, asked_of, Collect}
use Rattle.plan_ir.specs.store_model.Reaches.{types_of}
use Rattle.plan_ir.specs.store_model.Said.{HaveHandleKeys}
use Rattle.plan_ir.specs.store_model.Says.{Path, Report, handles, pages_for, first_of, info_of, pages_of, field_says, form_says, response_says}
use Rattle.plan_ir.specs.store_model.declared.facts.HandleFact.{HandleFact}
use Rattle.store_norm.proofs.EachReport.{IsInvariant, response_holds}

abbrev IsHandleKey : Text → Type 0
IsHandleKey key = starts_with nat_eq key (codes "__") ≡ true

handle_starts : (key : Text) (arguments : Arguments) → IsHandleKey (key_with (handle_name key) arguments)
handle_starts key [] = refl
handle_starts key (a ∷ more) = refl

-- the keys that fields ask for
handles_start : (as_all : List Ask) → Each IsHandleKey (handles as_all)
handles_start [] = tt
handles_start (a ∷ rest) = at a.connection (handles_start rest)
  where
    at : (c : Option Connection) → Each IsHandleKey (handles rest) → Each IsHandleKey (handles (record { response = a.response; name = a.name; arguments = a.arguments; connection = c; form = a.form } ∷ rest))
    at None all = all
    at (Some c) all = (handle_starts c.key (without_nulls (connection_arguments c.filters a.arguments)), all)

-- texts in order are those that were there
sorted_start : (texts : List Text) → Each IsHandleKey texts → Each IsHandleKey (sorted_texts texts)
sorted_start texts all = each_from IsHandleKey (sorted_texts texts) (λ t h. of_member IsHandleKey texts t all (sym (has_text-sorted_texts texts t) ∙ h))

pages_start : (id : Text) (a : Ask) (page_type info_type : Text) (keys : List Text) → Each IsHandleKey keys → HaveHandleKeys (pages_for id a page_type info_type keys)
pages_start id a page_type info_type [] all = tt
pages_start id a page_type info_type (key ∷ keys) all = (all.0, pages_start id a page_type info_type keys all.1)

-- nothing is asked of parts, fields and types
abbrev Any : {X : Type 0} → X → Type 0
Any x = Unit {0}

each_any : {X : Type 0} (xs : List X) → Each Any xs
each_any [] = tt
each_any (x ∷ xs) = (tt, each_any xs)

joined : (xs ys : List HandleFact) → HaveHandleKeys xs → HaveHandleKeys ys → HaveHandleKeys (xs ++ ys)
joined xs ys = each_append (λ (handle : HandleFact). IsHandleKey handle.handle_key) xs ys

abbrev Keyed : Report → Type 0
Keyed r = HaveHandleKeys r.pages

abbrev KeyedUnder : Text → Report → Type 0
KeyedUnder id r = Keyed r

module _ {F : Type 0} (collect : Collect F) where
  pages_of_start : (id : Text) (g : Group F) → HaveHandleKeys (pages_of collect id g)
  pages_of_start id g =
      let page = first_of (types_of g.first.ask.form) in
      pages_start id g.first.ask (unwrap_or page []) (info_of collect page (parts g)) (sorted_texts (handles (asks g))) (sorted_start (handles (asks g)) (handles_start (asks g)))

  field : (id : Text) (path : Path) (g : Group F) (r : Field × Report) → Keyed r.1 → Keyed (form_says g.first.ask.form (field_says id path g.first.ask (pages_of collect id g) r))
  field id path g r keyed = at g.first.ask.form
    where
      said : Report
      said = field_says id path g.first.ask (pages_of collect id g) r

      all : Keyed said
      all = joined (pages_of collect id g) r.1.pages (pages_of_start id g) keyed

      at : (form : Form) → Keyed (form_says form said)
      at typename = tt
      at leaf = all
      at (one b) = all
      at (many b) = all

  keyed_throughout : IsInvariant collect Any Any Any Keyed KeyedUnder
  keyed_throughout = record {
    collected = λ T f fine. each_any (asked_of (collect T f));
    types = λ a sound. each_any (types_of a.ask.form);
    below = λ a sound. tt;
    nothing = tt;
    fault = λ path c. tt;
    joined = λ a b. joined a.pages b.pages;
    no_field = λ id. tt;
    fields = λ id a b. joined a.pages b.pages;
    field = λ id path g r sound. field id path g r;
    object = λ id T path r is keyed. keyed;
  }

-- each page of a response stands under the key of a connection
pub keys_hold : {F : Type 0} (collect : Collect F) (T : Text) (fs : List F) (d : J.Data) → HaveHandleKeys (response_says collect T fs d).pages
keys_hold collect T fs d =
    response_holds collect Any Any Any Keyed KeyedUnder (keyed_throughout collect) T fs (each_any fs) tt d
