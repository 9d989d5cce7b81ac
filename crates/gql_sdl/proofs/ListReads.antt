-- What has been read of names and locations.
use Rattle.std.proofs.Common.{◌≡◌, ◌≢◌, ◌≤◌, ◌⊎◌, inl, inr, ℕ, Bool, true, false, not, cond, bytes_eq, IfOk, List, [], ◌∷◌, ◌++◌, map, length, Option, Some, None, option_map, Result, Ok, Err, refl, sym, ap, subst, ◌∙◌, arith}
use Rattle.gql_syntax.specs.gql_lex.Sources.{Source}
use Rattle.gql_syntax.specs.gql_lex.Toks as tok
use Rattle.gql_syntax.specs.gql_lex.Toks.{Tok, punctuator_of}
use Rattle.gql_syntax.specs.gql_ast.declared.location.Location.{Location}
use Rattle.gql_syntax.proofs.Tokens.{not_at, no_word}
use Rattle.gql_syntax.specs.Answers.{node_count, Misses, wrong_at}
use Rattle.gql_syntax.specs.Nexts.{behind, is_at, word_of, next_is, next_word, Comes, stopped_at, token_count}
use Rattle.gql_syntax.specs.Places.{Ahead, lay}
use Rattle.gql_syntax.specs.Run.{unexpected}
use Rattle.gql_syntax.specs.Texts.{nesting_limit}
use Rattle.gql_syntax.specs.Words.{on_word}
use Rattle.gql_syntax.specs.declared.fault.Fault.{Fault}
use Rattle.gql_sdl.specs.Machine.{Front, Fielded, Listing, implementing, uniting, locating, listing_then, listing_more_of, listing_name, location_of, implements_word, repeatable_word, State, head, entitled, listing, listing_led, listing_more, listing_next, directive_on, directives_of, on_fielded, heading_of, front_then, at_directives, advance, finish}
use Rattle.gql_sdl.specs.Reads.{run_on, Read, Fails, Reads, Anywhere, Led, Names, for_type, for_union, names_listing, names_separator, MayList, before_names, behind_names, spell_names, NamesAt, lead, MayLead, MayNames, led_names, behind_led_names, before_implements, behind_implements, Uniting, before_union_members, behind_union_members, NoDirective, Locating, before_repeatable, set_repeatable, before_locations, behind_locations, LocatingAt, MayLocate, led_locating, behind_led_locations, spell_led, spell_locations}
use Rattle.gql_sdl.specs.Schemas.{location_word, NotEmpty, union, spell_separated, spell_implements, spell_members_part, spell_repeatable}
use Rattle.gql_sdl.proofs.Goings.{on-name, on-sign, alike, fails-behind, fails-missed, fails-stopped}
use Rattle.gql_sdl.proofs.InputReads.{behind-count}
use Rattle.gql_sdl.proofs.MemberReads.{word-cases}
use Rattle.gql_sdl.proofs.Separated.{Separated, SeparatedLaws, sep_nodes}
use Rattle.gql_sdl.proofs.Spellings.{location_of-location, location_of-word, same_word}

-- ---- names

abbrev pub names_separated : (separator : ℕ) → Separated NamesAt (List ℕ)
names_separated separator = record {
  May = MayNames separator;
  first = led_names;
  next = λ k ns. listing_next k.leading (names_listing k.names ns);
  more = λ k ns. listing_more k.leading (names_listing k.names ns);
  ended = behind_led_names;
  separator = separator;
  nodes = 1;
  word = λ n. n;
  Missing = λ s. next_word s ≡ None;
}

names-first : (names : Names) (leading : Bool) (n : List ℕ)
    → advance nesting_limit (lead leading (names_listing names [])) (tok.name n) ≡ Ok (listing_more leading (names_listing names (n ∷ [])))
names-first (for_type f k m) true n = refl
names-first (for_type f k m) false n = refl
names-first (for_union f m ds) true n = refl
names-first (for_union f m ds) false n = refl

names-separator : (names : Names) (leading : Bool) (ns : List (List ℕ))
    → advance nesting_limit (listing_more leading (names_listing names ns)) (punctuator_of (names_separator names)) ≡ Ok (listing_next leading (names_listing names ns))
names-separator (for_type f k m) leading ns = refl
names-separator (for_union f m ds) leading ns = refl

names-next : (names : Names) (leading : Bool) (ns : List (List ℕ)) (n : List ℕ)
    → advance nesting_limit (listing_next leading (names_listing names ns)) (tok.name n) ≡ Ok (listing_more leading (names_listing names (ns ++ n ∷ [])))
names-next (for_type f k m) leading ns n = refl
names-next (for_union f m ds) leading ns n = refl

name-wanted : (leading : Bool) (l : Listing) (t : Tok) → word_of t ≡ None → listing_name leading l t ≡ Err unexpected
name-wanted leading l (tok.name n) e = absurd (cc)
name-wanted leading l t e = refl

names-no_first : (names : Names) (leading : Bool) (t : Tok) → word_of t ≡ None → (leading ≡ false → is_at (names_separator names) t ≡ false)
    → advance nesting_limit (lead leading (names_listing names [])) t ≡ Err unexpected
names-no_first names true t w s = name-wanted true (names_listing names []) t w
names-no_first (for_type f k m) false tok.ampersand w s = let h = s refl in absurd (cc)
names-no_first (for_type f k m) false t w s = name-wanted false (implementing f k m []) t w
names-no_first (for_union f m ds) false tok.bar w s = let h = s refl in absurd (cc)
names-no_first (for_union f m ds) false t w s = name-wanted false (uniting f m ds []) t w

has_no_lead : (separator : ℕ) (leading : Bool) (s : Source) (t : Tok) → Comes s t → MayLead separator leading s → leading ≡ false → is_at separator t ≡ false
has_no_lead separator true s t c m e = absurd (cc)
has_no_lead separator false s t c m e = not_at separator s t c m

names-end : (names : Names) (leading : Bool) (ns : List (List ℕ)) (t : Tok) → is_at (names_separator names) t ≡ false
    → advance nesting_limit (listing_more leading (names_listing names ns)) t ≡ advance nesting_limit (behind_names names (record { leading = leading; all = ns })) t
names-end (for_type f k m) leading ns tok.ampersand e = absurd (cc)
names-end (for_type f k m) leading ns t e = refl
names-end (for_union f m ds) leading ns tok.bar e = absurd (cc)
names-end (for_union f m ds) leading ns t e = refl

names-finish : (names : Names) (leading : Bool) (ns : List (List ℕ))
    → finish (listing_more leading (names_listing names ns)) ≡ finish (behind_names names (record { leading = leading; all = ns }))
names-finish (for_type f k m) leading ns = refl
names-finish (for_union f m ds) leading ns = refl

led-unfinished : (leading : Bool) (l : Listing) → finish (lead leading l) ≡ None
led-unfinished true l = refl
led-unfinished false l = refl

pub names_laws : (separator : ℕ) → SeparatedLaws (names_separated separator)
names_laws separator = record {
  takes_first = λ k w. names-first k.names k.leading w;
  takes_separator = λ k s ws m. subst (λ c. advance nesting_limit (listing_more k.leading (names_listing k.names ws)) (punctuator_of c) ≡ Ok (listing_next k.leading (names_listing k.names ws))) m.0
      (names-separator k.names k.leading ws);
  takes_next = λ k ws w. names-next k.names k.leading ws w;
  no_first = λ k s m miss t c. names-no_first k.names k.leading t (no_word s t c miss) (λ e. subst (λ o. is_at o t ≡ false) (sym m.0) (has_no_lead separator k.leading s t c m.1 e));
  no_next = λ k ws s miss t c. name-wanted k.leading (names_listing k.names ws) t (no_word s t c miss);
  unfinished_first = λ k. led-unfinished k.leading (names_listing k.names []);
  unfinished_next = λ k ws. refl;
  ends = λ k s ws m there n t c. names-end k.names k.leading ws t (subst (λ o. is_at o t ≡ false) (sym m.0) (not_at separator there t c n));
  ends_finish = λ k ws. names-finish k.names k.leading ws;
}

-- ---- a separator in front, or none

names-lead : (names : Names) → advance nesting_limit (before_names names) (punctuator_of (names_separator names)) ≡ Ok (listing_led (names_listing names []))
names-lead (for_type f k n) = refl
names-lead (for_union f n ds) = refl

map-same : {A : Type 0} (xs : List A) → map (λ (x : A). x) xs ≡ xs
map-same [] = refl
map-same (x ∷ xs) = ap (λ ys. x ∷ ys) (map-same xs)

separated-leading : (n : ℕ) (ws : List (List ℕ)) (ns : List ℕ) → NotEmpty ws → spell_separated node_count tok.bar n true ws ns ≡ 0 ∷ spell_separated node_count tok.bar n false ws ns
separated-leading n [] ns h = absurd h
separated-leading n (w ∷ ws) ns h = refl

pub names-led : (separator : ℕ) (a b c : Ahead) (ws : List (List ℕ)) → next_is separator a.source ≡ true → b.source ≡ behind a.source → ((ns : List ℕ) → lay (0 ∷ ns) a ≡ lay ns b) → b.text ≡ a.text
    → Read (MayNames separator) led_names behind_led_names (sep_nodes (names_separated separator)) (λ (ws : List (List ℕ)). ws) b c ws → NotEmpty ws
    → Read (MayList separator) before_names behind_names spell_names (λ (w : Led (List ℕ)). w.all) a c ws
names-led separator a b c ws n s l t r h = record {
  written = record { leading = true; all = r.written };
  viewed = r.viewed;
  goes = λ k size z m. on-sign size separator (before_names k) (listing_led (names_listing k [])) a.source n
      (subst (λ o. advance nesting_limit (before_names k) (punctuator_of o) ≡ Ok (listing_led (names_listing k []))) m (names-lead k))
      ∙ ap (run_on size (listing_led (names_listing k []))) (sym s)
      ∙ r.goes (record { names = k; leading = true }) size (z ∙ ap (λ (s : List ℕ). length s) (sym t)) (m, tt);
  nodes = λ ns. ap (λ xs. lay xs a) (separated-leading 1 r.written ns (subst NotEmpty (sym r.viewed) h))
      ∙ l (spell_separated node_count tok.bar 1 false r.written ns)
      ∙ ap (λ xs. lay (spell_separated node_count tok.bar 1 false xs ns) b) (sym (map-same r.written)) ∙ r.nodes ns;
  taken = omega (arith, r.taken, ap token_count s, behind-count a.source);
  text = r.text ∙ t;
}

pub names-led-fail : (separator : ℕ) (a b : Ahead) (f : Fault) → next_is separator a.source ≡ true → b.source ≡ behind a.source → b.text ≡ a.text
    → Fails (MayNames separator) led_names b f → Fails (MayList separator) before_names a f
names-led-fail separator a b f n s t h =
    fails-behind (MayList separator) before_names (MayNames separator) led_names a b (λ k. record { names = k; leading = true }) t
    (λ k size z m. on-sign size separator (before_names k) (listing_led (names_listing k [])) a.source n
    (subst (λ o. advance nesting_limit (before_names k) (punctuator_of o) ≡ Ok (listing_led (names_listing k []))) m (names-lead k))
    ∙ ap (run_on size (listing_led (names_listing k []))) (sym s))
    (λ k m. (m, tt)) f h

pub names-unled : (separator : ℕ) (a c : Ahead) (ws : List (List ℕ)) → next_is separator a.source ≡ false
    → Read (MayNames separator) led_names behind_led_names (sep_nodes (names_separated separator)) (λ (ws : List (List ℕ)). ws) a c ws
    → Read (MayList separator) before_names behind_names spell_names (λ (w : Led (List ℕ)). w.all) a c ws
names-unled separator a c ws n r = record {
  written = record { leading = false; all = r.written };
  viewed = r.viewed;
  goes = λ k size z m. r.goes (record { names = k; leading = false }) size z (m, n);
  nodes = λ ns. ap (λ xs. lay (spell_separated node_count tok.bar 1 false xs ns) a) (sym (map-same r.written)) ∙ r.nodes ns;
  taken = r.taken;
  text = r.text;
}

pub names-unled-fail : (separator : ℕ) (a : Ahead) (f : Fault) → next_is separator a.source ≡ false → Fails (MayNames separator) led_names a f → Fails (MayList separator) before_names a f
names-unled-fail separator a f n h =
    fails-behind (MayList separator) before_names (MayNames separator) led_names a a (λ k. record { names = k; leading = false }) refl (λ k size z m. refl) (λ k m. (m, n)) f h

-- ---- `implements`

implements-test : (f : Front) (k : Fielded) (n : List ℕ) (m : List ℕ) (b : Bool) → bytes_eq m implements_word ≡ b → m ≡ implements_word
    → advance nesting_limit (entitled f k n) (tok.name m) ≡ Ok (listing (implementing f k n []))
implements-test f k n m b e same = ap (λ m. advance nesting_limit (entitled f k n) (tok.name m)) same

pub implements-read : (a b c : Ahead) (ws : List (List ℕ)) → next_word a.source ≡ Some implements_word → b.source ≡ behind a.source → ((ns : List ℕ) → lay (0 ∷ ns) a ≡ lay ns b) → b.text ≡ a.text
    → Read (MayList 38) before_names behind_names spell_names (λ (w : Led (List ℕ)). w.all) b c ws → NotEmpty ws
    → Read Anywhere before_implements behind_implements (λ (w : Led (List ℕ)) (ns : List ℕ). spell_implements node_count w.leading w.all ns) (λ w. w.all) a c ws
implements-read a b c ws n s l t r h = record {
  written = r.written;
  viewed = r.viewed;
  goes = λ k size z m. on-name size (before_implements k) (listing (implementing k.front k.kind k.title [])) a.source implements_word n refl
      ∙ ap (run_on size (listing (implementing k.front k.kind k.title []))) (sym s)
      ∙ r.goes (for_type k.front k.kind k.title) size (z ∙ ap (λ (s : List ℕ). length s) (sym t)) refl;
  nodes = λ ns. ap (λ xs. lay xs a) (spelled r.written.all ns (subst NotEmpty (sym r.viewed) h)) ∙ l (spell_names r.written ns) ∙ r.nodes ns;
  taken = omega (arith, r.taken, ap token_count s, behind-count a.source);
  text = r.text ∙ t;
}
  where
    spelled : (ws : List (List ℕ)) (ns : List ℕ) → NotEmpty ws → spell_implements node_count r.written.leading ws ns ≡ 0 ∷ spell_separated node_count tok.bar 1 r.written.leading ws ns
    spelled [] ns h = absurd h
    spelled (w ∷ ws) ns h = on_leading r.written.leading
      where
        on_leading : (leading : Bool) → spell_implements node_count leading (w ∷ ws) ns ≡ 0 ∷ spell_separated node_count tok.bar 1 leading (w ∷ ws) ns
        on_leading true = refl
        on_leading false = refl

pub implements-fail : (a b : Ahead) (f : Fault) → next_word a.source ≡ Some implements_word → b.source ≡ behind a.source → b.text ≡ a.text → Fails (MayList 38) before_names b f → Fails Anywhere before_implements a f
implements-fail a b f n s t h =
    fails-behind Anywhere before_implements (MayList 38) before_names a b (λ k. for_type k.front k.kind k.title) t
    (λ k size z m. on-name size (before_implements k) (listing (implementing k.front k.kind k.title [])) a.source implements_word n refl
    ∙ ap (run_on size (listing (implementing k.front k.kind k.title []))) (sym s)) (λ k m. refl) f h

entitled-skips : (f : Front) (k : Fielded) (n : List ℕ) (t : Tok) → ((m : List ℕ) → t ≡ tok.name m → bytes_eq m implements_word ≡ false)
    → advance nesting_limit (entitled f k n) t ≡ advance nesting_limit (directives_of (on_fielded (heading_of f k n false []))) t
entitled-skips f k n (tok.name m) h =
    ap (λ b. cond b (Ok (listing (implementing f k n []))) (at_directives nesting_limit (on_fielded (heading_of f k n false [])) (tok.name m))) (h m refl)
entitled-skips f k n t h = refl

-- another word, or none, follows
pub implements-absent : (a : Ahead) (us : List (List ℕ)) → us ≡ [] → ((m : List ℕ) → next_word a.source ≡ Some m → bytes_eq m implements_word ≡ false)
    → Read Anywhere before_implements behind_implements (λ (w : Led (List ℕ)) (ns : List ℕ). spell_implements node_count w.leading w.all ns) (λ w. w.all) a a us
implements-absent a us e h = record {
  written = record { leading = false; all = [] };
  viewed = sym e;
  goes = λ k size z m. alike size (before_implements k) (directives_of (on_fielded (heading_of k.front k.kind k.title false []))) a.source refl
      (λ t c. entitled-skips k.front k.kind k.title t (λ m same. h m (on_cases (word-cases a.source t c) m same)));
  nodes = λ ns. refl;
  taken = omega arith;
  text = refl;
}
  where
    on_cases : {t : Tok} → (word_of t ≡ None) ⊎ ((n : List ℕ) × (t ≡ tok.name n) × (next_word a.source ≡ Some n)) → (m : List ℕ) → t ≡ tok.name m → next_word a.source ≡ Some m
    on_cases (inl w) m same = absurd (name_is w same)
      where
        name_is : {t : Tok} → word_of t ≡ None → t ≡ tok.name m → ⊥
        name_is w same = let h : word_of (tok.name m) ≡ None = ap word_of (sym same) ∙ w in absurd (cc)
    on_cases (inr w) m same = let h : tok.name w.0 ≡ tok.name m = sym w.1 ∙ same in let k : w.0 ≡ m = cc in w.2 ∙ ap (λ n. Some n) k

-- ---- the members of a union

pub members-read : (a b c : Ahead) (ws : List (List ℕ)) → next_is 61 a.source ≡ true → b.source ≡ behind a.source → ((ns : List ℕ) → lay (0 ∷ ns) a ≡ lay ns b) → b.text ≡ a.text
    → Read (MayList 124) before_names behind_names spell_names (λ (w : Led (List ℕ)). w.all) b c ws → NotEmpty ws
    → Read NoDirective before_union_members behind_union_members (λ (w : Led (List ℕ)) (ns : List ℕ). spell_members_part node_count w.leading w.all ns) (λ w. w.all) a c ws
members-read a b c ws n s l t r h = record {
  written = r.written;
  viewed = r.viewed;
  goes = λ k size z m. on-sign size 61 (before_union_members k) (listing (uniting k.front k.title k.directives [])) a.source n refl
      ∙ ap (run_on size (listing (uniting k.front k.title k.directives []))) (sym s)
      ∙ r.goes (for_union k.front k.title k.directives) size (z ∙ ap (λ (s : List ℕ). length s) (sym t)) refl;
  nodes = λ ns. ap (λ xs. lay xs a) (spelled r.written.all ns (subst NotEmpty (sym r.viewed) h)) ∙ l (spell_names r.written ns) ∙ r.nodes ns;
  taken = omega (arith, r.taken, ap token_count s, behind-count a.source);
  text = r.text ∙ t;
}
  where
    spelled : (ws : List (List ℕ)) (ns : List ℕ) → NotEmpty ws → spell_members_part node_count r.written.leading ws ns ≡ 0 ∷ spell_separated node_count tok.bar 1 r.written.leading ws ns
    spelled [] ns h = absurd h
    spelled (w ∷ ws) ns h = refl

pub members-fail : (a b : Ahead) (f : Fault) → next_is 61 a.source ≡ true → b.source ≡ behind a.source → b.text ≡ a.text → Fails (MayList 124) before_names b f → Fails NoDirective before_union_members a f
members-fail a b f n s t h =
    fails-behind NoDirective before_union_members (MayList 124) before_names a b (λ k. for_union k.front k.title k.directives) t
    (λ k size z m. on-sign size 61 (before_union_members k) (listing (uniting k.front k.title k.directives [])) a.source n refl
    ∙ ap (run_on size (listing (uniting k.front k.title k.directives []))) (sym s)) (λ k m. refl) f h

pub members-absent : (a : Ahead) (us : List (List ℕ)) → us ≡ [] → next_is 61 a.source ≡ false
    → Read NoDirective before_union_members behind_union_members (λ (w : Led (List ℕ)) (ns : List ℕ). spell_members_part node_count w.leading w.all ns) (λ w. w.all) a a us
members-absent a us e n = record {
  written = record { leading = false; all = [] };
  viewed = sym e;
  goes = λ k size z m. alike size (before_union_members k) (head (front_then k.front (union k.title k.directives false []))) a.source refl
      (λ t c. same k t (not_at 61 a.source t c n) (not_at 64 a.source t c m));
  nodes = λ ns. refl;
  taken = omega arith;
  text = refl;
}
  where
    same : (k : Uniting) (t : Tok) → is_at 61 t ≡ false → is_at 64 t ≡ false
        → advance nesting_limit (before_union_members k) t ≡ advance nesting_limit (head (front_then k.front (union k.title k.directives false []))) t
    same k tok.equals e d = absurd (cc)
    same k tok.at_sign e d = absurd (cc)
    same k t e d = refl

-- ---- locations

abbrev pub NoLocation : Source → Type 0
NoLocation ahead = (l : Location) → next_word ahead ≡ Some (location_word l) → ⊥

abbrev locations_of : LocatingAt → List Location → Listing
locations_of k ls = locating k.on.directive.front k.on.directive.title k.on.directive.arguments k.on.repeatable ls

abbrev pub locations_separated : Separated LocatingAt Location
locations_separated = record {
  May = MayLocate;
  first = led_locating;
  next = λ k ls. listing_next k.leading (locations_of k ls);
  more = λ k ls. listing_more k.leading (locations_of k ls);
  ended = behind_led_locations;
  separator = 124;
  nodes = 0;
  word = location_word;
  Missing = NoLocation;
}

located-name : (k : LocatingAt) (leading : Bool) (ls : List Location) (l : Location)
    → listing_more_of leading (listing_then (locations_of k ls) (location_word l)) ≡ Ok (listing_more leading (locations_of k (ls ++ l ∷ [])))
located-name k leading ls l =
    ap (λ o. listing_more_of leading (option_map (λ l. locations_of k (ls ++ l ∷ [])) o)) (location_of-location l)

locations-first : (k : LocatingAt) (leading : Bool) (l : Location) → advance nesting_limit (lead leading (locations_of k [])) (tok.name (location_word l)) ≡ Ok (listing_more leading (locations_of k (l ∷ [])))
locations-first k true l = located-name k true [] l
locations-first k false l = located-name k false [] l

unlocated-name : (k : LocatingAt) (leading : Bool) (ls : List Location) (n : List ℕ) → location_of n ≡ None → listing_more_of leading (listing_then (locations_of k ls) n) ≡ Err unexpected
unlocated-name k leading ls n e = ap (λ o. listing_more_of leading (option_map (λ l. locations_of k (ls ++ l ∷ [])) o)) e

no-location : (s : Source) → NoLocation s → (n : List ℕ) → next_word s ≡ Some n → location_of n ≡ None
no-location s miss n w = on_location (location_of n) (location_of-word n)
  where
    on_location : (o : Option Location) → ((l : Location) → o ≡ Some l → n ≡ location_word l) → o ≡ None
    on_location None is = refl
    on_location (Some l) is = absurd (miss l (w ∙ ap (λ m. Some m) (is l refl)))

location-wanted : (k : LocatingAt) (leading : Bool) (ls : List Location) (s : Source) → NoLocation s → (t : Tok) → Comes s t → listing_name leading (locations_of k ls) t ≡ Err unexpected
location-wanted k leading ls s miss t c = on_cases (word-cases s t c)
  where
    on_cases : (word_of t ≡ None) ⊎ ((n : List ℕ) × (t ≡ tok.name n) × (next_word s ≡ Some n)) → listing_name leading (locations_of k ls) t ≡ Err unexpected
    on_cases (inl w) = name-wanted leading (locations_of k ls) t w
    on_cases (inr w) = ap (λ t. listing_name leading (locations_of k ls) t) w.1 ∙ unlocated-name k leading ls w.0 (no-location s miss w.0 w.2)

locations-no_first : (k : LocatingAt) (leading : Bool) (t : Tok) → (leading ≡ false → is_at 124 t ≡ false) → listing_name leading (locations_of k []) t ≡ Err unexpected
    → advance nesting_limit (lead leading (locations_of k [])) t ≡ Err unexpected
locations-no_first k true t s h = h
locations-no_first k false tok.bar s h = let e = s refl in absurd (cc)
locations-no_first k false t s h = h

locations-end : (k : LocatingAt) (ls : List Location) (t : Tok) → is_at 124 t ≡ false → advance nesting_limit (listing_more k.leading (locations_of k ls)) t ≡ advance nesting_limit (behind_led_locations k ls) t
locations-end k ls tok.bar e = absurd (cc)
locations-end k ls t e = refl

pub locations_laws : SeparatedLaws locations_separated
locations_laws = record {
  takes_first = λ k l. locations-first k k.leading l;
  takes_separator = λ k s ls m. refl;
  takes_next = λ k ls l. located-name k k.leading ls l;
  no_first = λ k s m miss t c. locations-no_first k k.leading t (has_no_lead 124 k.leading s t c m) (location-wanted k k.leading [] s miss t c);
  no_next = λ k ls s miss t c. location-wanted k k.leading ls s miss t c;
  unfinished_first = λ k. led-unfinished k.leading (locations_of k []);
  unfinished_next = λ k ls. refl;
  ends = λ k s ls m there n t c. locations-end k ls t (not_at 124 there t c n);
  ends_finish = λ k ls. refl;
}

locations-leading : (ls : List Location) (ns : List ℕ) → NotEmpty ls
    → spell_separated node_count tok.bar 0 true (map location_word ls) ns ≡ 0 ∷ spell_separated node_count tok.bar 0 false (map location_word ls) ns
locations-leading [] ns h = absurd h
locations-leading (l ∷ ls) ns h = refl

pub locations-led : (a b c : Ahead) (ls : List Location) → next_is 124 a.source ≡ true → b.source ≡ behind a.source → ((ns : List ℕ) → lay (0 ∷ ns) a ≡ lay ns b) → b.text ≡ a.text
    → Read MayLocate led_locating behind_led_locations (sep_nodes locations_separated) (λ (ls : List Location). ls) b c ls → NotEmpty ls
    → Read Anywhere before_locations behind_locations spell_locations (λ (w : Led Location). w.all) a c ls
locations-led a b c ls n s l t r h = record {
  written = record { leading = true; all = r.written };
  viewed = r.viewed;
  goes = λ k size z m. on-sign size 124 (before_locations k) (led_locating (record { on = k; leading = true })) a.source n refl
      ∙ ap (run_on size (led_locating (record { on = k; leading = true }))) (sym s)
      ∙ r.goes (record { on = k; leading = true }) size (z ∙ ap (λ (s : List ℕ). length s) (sym t)) tt;
  nodes = λ ns. ap (λ xs. lay xs a) (locations-leading r.written ns (subst NotEmpty (sym r.viewed) h))
      ∙ l (spell_separated node_count tok.bar 0 false (map location_word r.written) ns) ∙ r.nodes ns;
  taken = omega (arith, r.taken, ap token_count s, behind-count a.source);
  text = r.text ∙ t;
}

pub locations-led-fail : (a b : Ahead) (f : Fault) → next_is 124 a.source ≡ true → b.source ≡ behind a.source → b.text ≡ a.text → Fails MayLocate led_locating b f → Fails Anywhere before_locations a f
locations-led-fail a b f n s t h =
    fails-behind Anywhere before_locations MayLocate led_locating a b (λ k. record { on = k; leading = true }) t
    (λ k size z m. on-sign size 124 (before_locations k) (led_locating (record { on = k; leading = true })) a.source n refl
    ∙ ap (run_on size (led_locating (record { on = k; leading = true }))) (sym s)) (λ k m. tt) f h

pub locations-unled : (a c : Ahead) (ls : List Location) → next_is 124 a.source ≡ false
    → Read MayLocate led_locating behind_led_locations (sep_nodes locations_separated) (λ (ls : List Location). ls) a c ls
    → Read Anywhere before_locations behind_locations spell_locations (λ (w : Led Location). w.all) a c ls
locations-unled a c ls n r = record {
  written = record { leading = false; all = r.written };
  viewed = r.viewed;
  goes = λ k size z m. r.goes (record { on = k; leading = false }) size z n;
  nodes = r.nodes;
  taken = r.taken;
  text = r.text;
}

pub locations-unled-fail : (a : Ahead) (f : Fault) → next_is 124 a.source ≡ false → Fails MayLocate led_locating a f → Fails Anywhere before_locations a f
locations-unled-fail a f n h =
    fails-behind Anywhere before_locations MayLocate led_locating a a (λ k. record { on = k; leading = false }) refl (λ k size z m. refl) (λ k m. n) f h

-- ---- `repeatable` and `on`

pub on-read : (a b : Ahead) → next_word a.source ≡ Some on_word → b.source ≡ behind a.source → ((ns : List ℕ) → lay (0 ∷ ns) a ≡ lay ns b) → b.text ≡ a.text
    → Read Anywhere before_repeatable set_repeatable (λ (r : Bool) (ns : List ℕ). spell_repeatable node_count r (0 ∷ ns)) (λ r. r) a b false
on-read a b n s l t = record {
  written = false;
  viewed = refl;
  goes = λ k size z m. on-name size (before_repeatable k) (set_repeatable k false) a.source on_word n refl ∙ ap (run_on size (set_repeatable k false)) (sym s);
  nodes = l;
  taken = subst (λ s. token_count s ≤ token_count a.source) (sym s) (behind-count a.source);
  text = t;
}

abbrev with_repeatable : Locating → State
with_repeatable k = directive_on k.front k.title k.arguments true

pub repeatable-read : (a b c : Ahead) → next_word a.source ≡ Some repeatable_word → b.source ≡ behind a.source → ((ns : List ℕ) → lay (0 ∷ ns) a ≡ lay ns b) → b.text ≡ a.text
    → next_word b.source ≡ Some on_word → c.source ≡ behind b.source → ((ns : List ℕ) → lay (0 ∷ ns) b ≡ lay ns c) → c.text ≡ b.text
    → Read Anywhere before_repeatable set_repeatable (λ (r : Bool) (ns : List ℕ). spell_repeatable node_count r (0 ∷ ns)) (λ r. r) a c true
repeatable-read a b c n s l t n2 s2 l2 t2 = record {
  written = true;
  viewed = refl;
  goes = λ k size z m. on-name size (before_repeatable k) (with_repeatable k) a.source repeatable_word n refl ∙ ap (run_on size (with_repeatable k)) (sym s)
      ∙ on-name size (with_repeatable k) (set_repeatable k true) b.source on_word n2 refl ∙ ap (run_on size (set_repeatable k true)) (sym s2);
  nodes = λ ns. l (0 ∷ ns) ∙ l2 ns;
  taken = omega (arith, ap token_count s, ap token_count s2, behind-count a.source, behind-count b.source);
  text = t2 ∙ t;
}

marked-stops : (k : Locating) (t : Tok) → ((m : List ℕ) → t ≡ tok.name m → bytes_eq m on_word ≡ false) → advance nesting_limit (with_repeatable k) t ≡ Err unexpected
marked-stops k (tok.name m) h = ap (λ b. cond b (Ok (set_repeatable k true)) (Err unexpected)) (h m refl)
marked-stops k t h = refl

unlocated-stops : (k : Locating) (t : Tok) → ((m : List ℕ) → t ≡ tok.name m → bytes_eq m repeatable_word ≡ false) → ((m : List ℕ) → t ≡ tok.name m → bytes_eq m on_word ≡ false)
    → advance nesting_limit (before_repeatable k) t ≡ Err unexpected
unlocated-stops k (tok.name m) h g =
    ap (λ b. cond b (Ok (with_repeatable k)) (cond (bytes_eq m on_word) (Ok (set_repeatable k false)) (Err unexpected))) (h m refl) ∙ ap (λ b. cond b (Ok (set_repeatable k false)) (Err unexpected)) (g m refl)
unlocated-stops k t h g = refl

-- the word does not come
other-word : (s : Source) (w : List ℕ) → next_word s ≢ Some w → (t : Tok) → Comes s t → (m : List ℕ) → t ≡ tok.name m → bytes_eq m w ≡ false
other-word s w n t c m same = on_test (bytes_eq m w) refl
  where
    came : (x : (word_of t ≡ None) ⊎ ((n : List ℕ) × (t ≡ tok.name n) × (next_word s ≡ Some n))) → next_word s ≡ Some m
    came (inl x) = let h : word_of (tok.name m) ≡ None = ap word_of (sym same) ∙ x in absurd (cc)
    came (inr x) = let h : tok.name x.0 ≡ tok.name m = sym x.1 ∙ same in let k : x.0 ≡ m = cc in x.2 ∙ ap (λ n. Some n) k

    on_test : (b : Bool) → bytes_eq m w ≡ b → b ≡ false
    on_test false e = refl
    on_test true e = absurd (n (came (word-cases s t c) ∙ ap (λ m. Some m) (same_word m w e)))

pub repeatable-no_on : (a b : Ahead) (f : Fault) → next_word a.source ≡ Some repeatable_word → b.source ≡ behind a.source → b.text ≡ a.text
    → Misses f (next_word b.source ≢ Some on_word) (stopped_at (length b.text) b.source) → Fails Anywhere before_repeatable a f
repeatable-no_on a b f n s t m =
    fails-behind Anywhere before_repeatable (λ (k : Locating) (s : Source). Unit {0}) with_repeatable a b (λ k. k) t
    (λ k size z m. on-name size (before_repeatable k) (with_repeatable k) a.source repeatable_word n refl ∙ ap (run_on size (with_repeatable k)) (sym s)) (λ k m. tt) f
    (fails-missed (λ (k : Locating) (s : Source). Unit {0}) with_repeatable b (next_word b.source ≢ Some on_word) f m
    (λ k z miss. (refl, λ t c. marked-stops k t (other-word b.source on_word miss t c))))

pub no_on : (a : Ahead) (f : Fault) → next_word a.source ≢ Some repeatable_word → Misses f (next_word a.source ≢ Some on_word) (stopped_at (length a.text) a.source) → Fails Anywhere before_repeatable a f
no_on a f r m =
    fails-missed Anywhere before_repeatable a (next_word a.source ≢ Some on_word) f m
    (λ k z miss. (refl, λ t c. unlocated-stops k t (other-word a.source repeatable_word r t c) (other-word a.source on_word miss t c)))

pub no_word_there : (a : Ahead) → next_word a.source ≡ None → Fails Anywhere before_repeatable a (wrong_at (stopped_at (length a.text) a.source))
no_word_there a n =
    fails-stopped Anywhere before_repeatable a
    (λ k z. (
      refl,
      λ t c. unlocated-stops k t (other-word a.source repeatable_word (λ e. let h : None ≡ Some repeatable_word = sym n ∙ e in absurd (cc)) t c)
          (other-word a.source on_word (λ e. let h : None ≡ Some on_word = sym n ∙ e in absurd (cc)) t c),
    ))

-- ---- what is read is handed on

pub not-true : (b : Bool) → true ≡ not b → b ≡ false
not-true false e = refl
not-true true e = absurd (cc)

pub not-false : (b : Bool) → false ≡ not b → b ≡ true
not-false true e = refl
not-false false e = absurd (cc)

pub names-led-reads : (separator : ℕ) (a b c : Ahead) (r : Result (List (List ℕ)) Fault) → next_is separator a.source ≡ true → b.source ≡ behind a.source
    → ((ns : List ℕ) → lay (0 ∷ ns) a ≡ lay ns b) → b.text ≡ a.text
    → Reads (MayNames separator) led_names behind_led_names (spell_led 1 (λ (n : List ℕ). n)) (λ (ws : List (List ℕ)). ws) b c r → IfOk r NotEmpty
    → Reads (MayList separator) before_names behind_names spell_names (λ (w : Led (List ℕ)). w.all) a c r
names-led-reads separator a b c (Ok ws) n s l t r h = names-led separator a b c ws n s l t r h
names-led-reads separator a b c (Err f) n s l t r h = names-led-fail separator a b f n s t r

pub names-unled-reads : (separator : ℕ) (a c : Ahead) (r : Result (List (List ℕ)) Fault) → next_is separator a.source ≡ false
    → Reads (MayNames separator) led_names behind_led_names (spell_led 1 (λ (n : List ℕ). n)) (λ (ws : List (List ℕ)). ws) a c r
    → Reads (MayList separator) before_names behind_names spell_names (λ (w : Led (List ℕ)). w.all) a c r
names-unled-reads separator a c (Ok ws) n r = names-unled separator a c ws n r
names-unled-reads separator a c (Err f) n r = names-unled-fail separator a f n r

pub implements-reads : (a b c : Ahead) (r : Result (List (List ℕ)) Fault) → next_word a.source ≡ Some implements_word → b.source ≡ behind a.source
    → ((ns : List ℕ) → lay (0 ∷ ns) a ≡ lay ns b) → b.text ≡ a.text
    → Reads (MayList 38) before_names behind_names spell_names (λ (w : Led (List ℕ)). w.all) b c r → IfOk r NotEmpty
    → Reads Anywhere before_implements behind_implements (λ (w : Led (List ℕ)) (ns : List ℕ). spell_implements node_count w.leading w.all ns) (λ w. w.all) a c r
implements-reads a b c (Ok ws) n s l t r h = implements-read a b c ws n s l t r h
implements-reads a b c (Err f) n s l t r h = implements-fail a b f n s t r

pub members-reads : (a b c : Ahead) (r : Result (List (List ℕ)) Fault) → next_is 61 a.source ≡ true → b.source ≡ behind a.source
    → ((ns : List ℕ) → lay (0 ∷ ns) a ≡ lay ns b) → b.text ≡ a.text
    → Reads (MayList 124) before_names behind_names spell_names (λ (w : Led (List ℕ)). w.all) b c r → IfOk r NotEmpty
    → Reads NoDirective before_union_members behind_union_members (λ (w : Led (List ℕ)) (ns : List ℕ). spell_members_part node_count w.leading w.all ns) (λ w. w.all) a c r
members-reads a b c (Ok ws) n s l t r h = members-read a b c ws n s l t r h
members-reads a b c (Err f) n s l t r h = members-fail a b f n s t r

pub locations-led-reads : (a b c : Ahead) (r : Result (List Location) Fault) → next_is 124 a.source ≡ true → b.source ≡ behind a.source
    → ((ns : List ℕ) → lay (0 ∷ ns) a ≡ lay ns b) → b.text ≡ a.text
    → Reads MayLocate led_locating behind_led_locations (spell_led 0 location_word) (λ (ls : List Location). ls) b c r → IfOk r NotEmpty
    → Reads Anywhere before_locations behind_locations spell_locations (λ (w : Led Location). w.all) a c r
locations-led-reads a b c (Ok ls) n s l t r h = locations-led a b c ls n s l t r h
locations-led-reads a b c (Err f) n s l t r h = locations-led-fail a b f n s t r

pub locations-unled-reads : (a c : Ahead) (r : Result (List Location) Fault) → next_is 124 a.source ≡ false
    → Reads MayLocate led_locating behind_led_locations (spell_led 0 location_word) (λ (ls : List Location). ls) a c r
    → Reads Anywhere before_locations behind_locations spell_locations (λ (w : Led Location). w.all) a c r
locations-unled-reads a c (Ok ls) n r = locations-unled a c ls n r
locations-unled-reads a c (Err f) n r = locations-unled-fail a f n r
