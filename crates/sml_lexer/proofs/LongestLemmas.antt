-- Items are the longest that begin at their places.
use Rattle.std.proofs.Common.{◌≡◌, ℕ, zero, suc, ◌-◌, ◌<◌, ◌≤◌, ◌⊎◌, inl, inr, Bool, true, false, ◌&&◌, ◌==◌, List, [], length, take, drop, Option, Some, None, refl, arith, sym, ap, ◌∙◌, length-drop, length-take}
use Rattle.std.proofs.lemmas.Bool.{cases_Bool, false≢true, true≢false}
use Rattle.std.proofs.lemmas.List.{drop_all, take-take}
use Rattle.mlc_faults.specs.declared.code.Code.TheVariants.{NoToken}
use Rattle.mlc_names.specs.declared.token.Reserved.{Reserved}
use Rattle.sml_lexer.specs.declared.chars.Class.TheVariants.{Space}
use Rattle.sml_lexer.specs.Chars.{after_run, byte, is_letter, is_space, is_symbol_char}
use Rattle.sml_lexer.specs.Comments.{after_comments, begins_comment, comment_item}
use Rattle.sml_lexer.specs.Identifiers.{name_item, symbol_item, type_var_item}
use Rattle.sml_lexer.specs.Item.{Item, blank, found, refused}
use Rattle.sml_lexer.specs.Items.{begins_char, begins_dots, item_at, mark_item, mark_or_none}
use Rattle.sml_lexer.specs.Lexeme.{Lexeme}
use Rattle.sml_lexer.specs.Longest.{IsOneItem, ItemsAreLongest}
use Rattle.sml_lexer.specs.Numbers.{begins_number, number_item}
use Rattle.sml_lexer.specs.ReservedWords.{marks, spelt}
use Rattle.sml_lexer.specs.Strings.{char_item, quoted, Quoted, string_item, string_of}
use Rattle.sml_lexer.proofs.CutLemmas.{byte_cut, drop_cut, false_from, Implies, implies_and, implies_byte}
use Rattle.sml_lexer.proofs.Cuts.{Cuts, as_other}
use Rattle.sml_lexer.proofs.ItemCut.{char_item_cut, comment_item_cut, dots_case, dots_implies, mark_case, mark_item_cut, name_item_cut, space_cut, string_item_cut, symbol_item_cut, type_var_cut}
use Rattle.sml_lexer.proofs.ItemLemmas.{is_blank, is_char, is_comment, is_mark, is_name, is_number, is_string, is_symbol, is_type_var}
use Rattle.sml_lexer.proofs.NotBlank.{char_no_blank, is_blank_item, mark_no_blank, name_fails, name_no_blank, NoBlank, no_token, number_fails, number_no_blank, string_no_blank, symbol_fails, symbol_no_blank, type_var_no_blank}
use Rattle.sml_lexer.proofs.NumberCut.{number_cut, number_implies}
use Rattle.sml_lexer.proofs.StringLonger.{string_longer}

char_implies : (text : List ℕ) (s : ℕ) → Implies (begins_char (take s text)) (begins_char text)
char_implies text s = implies_and _ _ _ _ (implies_byte (λ c. c == 35) text s 0 refl) (implies_byte (λ c. c == 34) text s 1 refl)

char_same : (text : List ℕ) (s : ℕ) → 2 ≤ s → begins_char (take s text) ≡ begins_char text
char_same text s h =
    let a = byte_cut text s 0 (omega arith) in
    let b = byte_cut text s 1 (omega arith) in
    λ j. a j == 35 && b j == 34

comment_implies : (text : List ℕ) (s : ℕ) → Implies (begins_comment (take s text)) (begins_comment text)
comment_implies text s = implies_and _ _ _ _ (implies_byte (λ c. c == 40) text s 0 refl) (implies_byte (λ c. c == 42) text s 1 refl)

comment_same : (text : List ℕ) (s : ℕ) → 2 ≤ s → begins_comment (take s text) ≡ begins_comment text
comment_same text s h =
    let a = byte_cut text s 0 (omega arith) in
    let b = byte_cut text s 1 (omega arith) in
    λ j. a j == 40 && b j == 42

blank_found : (r : List ℕ) (l : Lexeme) (s : List ℕ) → blank r ≡ found l s → ⊥
blank_found r l s e = cc

not_blank : (item : Item) (r : List ℕ) → NoBlank item → item ≡ blank r → ⊥
not_blank item r h e = false≢true (sym h ∙ ap is_blank_item e)

-- a text that begins with neither white space nor a letter
module _ (text : List ℕ) (no_space : is_space (byte text 0) ≡ false) (no_letter : is_letter (byte text 0) ≡ false) where
  first : (s : ℕ) → 0 < s → byte (take s text) 0 ≡ byte text 0
  first s h = byte_cut text s 0 h

  ns : (s : ℕ) → 0 < s → is_space (byte (take s text) 0) ≡ false
  ns s h = ap is_space (first s h) ∙ no_space

  nl : (s : ℕ) → 0 < s → is_letter (byte (take s text) 0) ≡ false
  nl s h = ap is_letter (first s h) ∙ no_letter

  number_there : (lexeme : Lexeme) (rest : List ℕ) → begins_number text ≡ true → item_at text ≡ found lexeme rest → Cuts item_at (found lexeme) text rest
  number_there lexeme rest is e =
      let n = number_cut text lexeme rest is (sym (is_number text no_space no_letter is) ∙ e) in
      let i = n.cuts in
      let some = i.some in
      as_other number_item item_at (found lexeme) text rest i (λ s h. is_number (take s text) (ns s (omega arith)) (nl s (omega arith)) (n.begins s h))

  module _ (no_number : begins_number text ≡ false) where
    nn : (s : ℕ) → begins_number (take s text) ≡ false
    nn s = false_from _ _ (number_implies text s) no_number

    type_var_there : (lexeme : Lexeme) (rest : List ℕ) → (byte text 0 == 39) ≡ true → item_at text ≡ found lexeme rest → Cuts item_at (found lexeme) text rest
    type_var_there lexeme rest is e =
        let i = type_var_cut text lexeme rest is (sym (is_type_var text no_space no_letter no_number is) ∙ e) in
        let some = i.some in
        as_other type_var_item item_at (found lexeme) text rest i (λ s h. is_type_var (take s text) (ns s (omega arith)) (nl s (omega arith)) (nn s) (ap (λ b. b == 39) (first s (omega arith)) ∙ is))

    module _ (no_prime : (byte text 0 == 39) ≡ false) where
      np : (s : ℕ) → 0 < s → (byte (take s text) 0 == 39) ≡ false
      np s h = ap (λ b. b == 39) (first s h) ∙ no_prime

      string_there : (lexeme : Lexeme) (rest : List ℕ) → (byte text 0 == 34) ≡ true → item_at text ≡ found lexeme rest → Cuts item_at (found lexeme) text rest
      string_there lexeme rest is e =
          let i = string_item_cut text lexeme rest (sym (is_string text no_space no_letter no_number no_prime is) ∙ e) in
          let some = i.some in
          as_other string_item item_at (found lexeme) text rest i (λ s h. is_string (take s text) (ns s (omega arith)) (nl s (omega arith)) (nn s) (np s (omega arith)) (ap (λ b. b == 34) (first s (omega arith)) ∙ is))

      module _ (no_quote : (byte text 0 == 34) ≡ false) where
        nq : (s : ℕ) → 0 < s → (byte (take s text) 0 == 34) ≡ false
        nq s h = ap (λ b. b == 34) (first s h) ∙ no_quote

        char_there : (lexeme : Lexeme) (rest : List ℕ) → begins_char text ≡ true → item_at text ≡ found lexeme rest → Cuts item_at (found lexeme) text rest
        char_there lexeme rest is e =
            let p = char_item_cut text lexeme rest (sym (is_char text no_space no_letter no_number no_prime no_quote is) ∙ e) in
            let i = p.0 in
            let two = p.1 in
            as_other char_item item_at (found lexeme) text rest i (λ s h. is_char (take s text) (ns s (omega arith)) (nl s (omega arith)) (nn s) (np s (omega arith)) (nq s (omega arith)) (char_same text s (omega arith) ∙ is))

        module _ (no_char : begins_char text ≡ false) where
          nc : (s : ℕ) → begins_char (take s text) ≡ false
          nc s = false_from _ _ (char_implies text s) no_char

          comment_there : (rest : List ℕ) → begins_comment text ≡ true → item_at text ≡ blank rest → Cuts item_at blank text rest
          comment_there rest is e =
              let p = comment_item_cut text rest (sym (is_comment text no_space no_letter no_number no_prime no_quote no_char is) ∙ e) in
              let i = p.0 in
              let two = p.1 in
              as_other comment_item item_at blank text rest i (λ s h. is_comment (take s text) (ns s (omega arith)) (nl s (omega arith)) (nn s) (np s (omega arith)) (nq s (omega arith)) (nc s) (comment_same text s (omega arith) ∙ is))

          module _ (no_comment : begins_comment text ≡ false) where
            no_bracket : (s : ℕ) → begins_comment (take s text) ≡ false
            no_bracket s = false_from _ _ (comment_implies text s) no_comment

            symbol_there : (lexeme : Lexeme) (rest : List ℕ) → is_symbol_char (byte text 0) ≡ true → item_at text ≡ found lexeme rest → Cuts item_at (found lexeme) text rest
            symbol_there lexeme rest is e =
                let i = symbol_item_cut text lexeme rest is (sym (is_symbol text no_space no_letter no_number no_prime no_quote no_char no_comment is) ∙ e) in
                let some = i.some in
                as_other symbol_item item_at (found lexeme) text rest i (λ s h. is_symbol (take s text) (ns s (omega arith)) (nl s (omega arith)) (nn s) (np s (omega arith)) (nq s (omega arith)) (nc s) (no_bracket s) (ap is_symbol_char (first s (omega arith)) ∙ is))

            mark_there : (lexeme : Lexeme) (rest : List ℕ) → is_symbol_char (byte text 0) ≡ false → item_at text ≡ found lexeme rest → Cuts item_at (found lexeme) text rest
            mark_there lexeme rest isnt e =
                let i = mark_item_cut text lexeme rest (sym (is_mark text no_space no_letter no_number no_prime no_quote no_char no_comment isnt) ∙ e) in
                let some = i.some in
                as_other mark_item item_at (found lexeme) text rest i (λ s h. is_mark (take s text) (ns s (omega arith)) (nl s (omega arith)) (nn s) (np s (omega arith)) (nq s (omega arith)) (nc s) (no_bracket s) (ap is_symbol_char (first s (omega arith)) ∙ isnt))

pub token_cut : (text : List ℕ) (lexeme : Lexeme) (rest : List ℕ) → item_at text ≡ found lexeme rest → Cuts item_at (found lexeme) text rest
token_cut text lexeme rest e =
    let goal : Type 0 = Cuts item_at (found lexeme) text rest in
    elim (cases_Bool (is_space (byte text 0))) as (λ _. goal) [
      | inl is ↦ absurd (blank_found _ _ _ (sym (is_blank text is) ∙ e))
      | inr s ↦ elim (cases_Bool (is_letter (byte text 0))) as (λ _. goal) [
        | inl is ↦
            let i = name_item_cut text lexeme rest is (sym (is_name text s is) ∙ e) in
            let some = i.some in
            as_other name_item item_at (found lexeme) text rest i (λ n h. is_name (take n text) (ap is_space (byte_cut text n 0 (omega arith)) ∙ s) (ap is_letter (byte_cut text n 0 (omega arith)) ∙ is))
        | inr l ↦ elim (cases_Bool (begins_number text)) as (λ _. goal) [
          | inl is ↦ number_there text s l lexeme rest is e
          | inr n ↦ elim (cases_Bool (byte text 0 == 39)) as (λ _. goal) [
            | inl is ↦ type_var_there text s l n lexeme rest is e
            | inr p ↦ elim (cases_Bool (byte text 0 == 34)) as (λ _. goal) [
              | inl is ↦ string_there text s l n p lexeme rest is e
              | inr q ↦ elim (cases_Bool (begins_char text)) as (λ _. goal) [
                | inl is ↦ char_there text s l n p q lexeme rest is e
                | inr c ↦ elim (cases_Bool (begins_comment text)) as (λ _. goal) [
                  | inl is ↦ absurd (no_token (after_comments 1 (drop 2 text)) lexeme rest (sym (is_comment text s l n p q c is) ∙ e))
                  | inr o ↦ elim (cases_Bool (is_symbol_char (byte text 0))) as (λ _. goal) [
                    | inl is ↦ symbol_there text s l n p q c o lexeme rest is e
                    | inr isnt ↦ mark_there text s l n p q c o lexeme rest isnt e
                  ]
                ]
              ]
            ]
          ]
        ]
      ]
    ]

pub blank_cut : (text rest : List ℕ) → item_at text ≡ blank rest → Cuts item_at blank text rest
blank_cut text rest e =
    let goal : Type 0 = Cuts item_at blank text rest in
    elim (cases_Bool (is_space (byte text 0))) as (λ _. goal) [
      | inl is ↦
          let i = space_cut text rest is (sym (is_blank text is) ∙ e) in
          let some = i.some in
          as_other (λ t. blank (after_run Space t)) item_at blank text rest i (λ n h. is_blank (take n text) (ap is_space (byte_cut text n 0 (omega arith)) ∙ is))
      | inr s ↦ elim (cases_Bool (is_letter (byte text 0))) as (λ _. goal) [
        | inl is ↦ absurd (not_blank _ rest (name_no_blank text) (sym (is_name text s is) ∙ e))
        | inr l ↦ elim (cases_Bool (begins_number text)) as (λ _. goal) [
          | inl is ↦ absurd (not_blank _ rest (number_no_blank text) (sym (is_number text s l is) ∙ e))
          | inr n ↦ elim (cases_Bool (byte text 0 == 39)) as (λ _. goal) [
            | inl is ↦ absurd (not_blank _ rest (type_var_no_blank text) (sym (is_type_var text s l n is) ∙ e))
            | inr p ↦ elim (cases_Bool (byte text 0 == 34)) as (λ _. goal) [
              | inl is ↦ absurd (not_blank _ rest (string_no_blank text) (sym (is_string text s l n p is) ∙ e))
              | inr q ↦ elim (cases_Bool (begins_char text)) as (λ _. goal) [
                | inl is ↦ absurd (not_blank _ rest (char_no_blank text) (sym (is_char text s l n p q is) ∙ e))
                | inr c ↦ elim (cases_Bool (begins_comment text)) as (λ _. goal) [
                  | inl is ↦ comment_there text s l n p q c rest is e
                  | inr o ↦ elim (cases_Bool (is_symbol_char (byte text 0))) as (λ _. goal) [
                    | inl is ↦ absurd (not_blank _ rest (symbol_no_blank text) (sym (is_symbol text s l n p q c o is) ∙ e))
                    | inr isnt ↦ absurd (not_blank _ rest (mark_no_blank text) (sym (is_mark text s l n p q c o isnt) ∙ e))
                  ]
                ]
              ]
            ]
          ]
        ]
      ]
    ]

-- no item begins where none is found
abbrev is_no_token : Item → Bool
is_no_token (blank r) = false
is_no_token (found l r) = false
is_no_token (refused NoToken) = true
is_no_token (refused _) = false

unless_no_token : (item other : Item) → is_no_token item ≡ false → item ≡ other → other ≡ refused NoToken → ⊥
unless_no_token item other h e f = false≢true (sym h ∙ ap is_no_token (e ∙ f))

one_not_refused : (text : List ℕ) (item : Item) → is_no_token item ≡ true → item_at text ≡ item → IsOneItem text → ⊥
one_not_refused text item h e one =
    elim one as (λ _. ⊥) [
      | inl b ↦ true≢false (sym h ∙ ap is_no_token (sym e ∙ b))
      | inr f ↦ true≢false (sym h ∙ ap is_no_token (sym e ∙ f.1))
    ]

nothing_one : IsOneItem [] → ⊥
unfolding item_at
nothing_one one =
    elim one as (λ _. ⊥) [
      | inl b ↦ true≢false (ap is_no_token b)
      | inr f ↦ true≢false (ap is_no_token f.1)
    ]

string_refused : (o : Option Quoted) → string_of o ≡ refused NoToken → o ≡ None
string_refused None e = refl
string_refused (Some q) e = absurd (false≢true (ap is_no_token e))

quoted_cases : (o : Option Quoted) → ((q : Quoted) × (o ≡ Some q)) ⊎ (o ≡ None)
quoted_cases None = inr refl
quoted_cases (Some q) = inl (q, refl)

some_none : (q : Quoted) → Some q ≡ None → ⊥
some_none q e = cc

-- a string constant that is broken has no front that is one
string_stays_broken : (text : List ℕ) (s : ℕ) → 0 < s → string_item text ≡ refused NoToken → string_item (take s text) ≡ refused NoToken
string_stays_broken text s h e =
    let none = string_refused (quoted 0 [] (drop 1 text)) e in
    elim (quoted_cases (quoted 0 [] (drop 1 (take s text)))) as (λ _. string_item (take s text) ≡ refused NoToken) [
      | inl q ↦
          let inner : quoted 0 [] (take (s - 1) (drop 1 text)) ≡ Some q.0 = ap (quoted 0 []) (sym (drop_cut text s 1 h)) ∙ q.1 in
          let long = string_longer (drop 1 text) (s - 1) 0 [] q.0 inner in
          absurd (some_none long.0 (sym long.1 ∙ none))
      | inr still ↦ ap string_of still
    ]

mark_refused : (o : Option Reserved) (r : List ℕ) → mark_or_none o r ≡ refused NoToken → o ≡ None
mark_refused None r e = refl
mark_refused (Some m) r e = absurd (false≢true (ap is_no_token e))

mark_stays_none : (text : List ℕ) (s : ℕ) → 0 < s → mark_item text ≡ refused NoToken → mark_item (take s text) ≡ refused NoToken
mark_stays_none text s h e =
    elim (cases_Bool (begins_dots text)) as (λ _. mark_item (take s text) ≡ refused NoToken) [
      | inl is ↦ absurd (false≢true (ap is_no_token (sym (dots_case text is) ∙ e)))
      | inr isnt ↦
          let front = take-take 1 s text h in
          let none = mark_refused (spelt marks (take 1 text)) (drop 1 text) (sym (mark_case text isnt) ∙ e) in
          mark_case (take s text) (false_from _ _ (dots_implies text s) isnt) ∙ ap (λ t. mark_or_none (spelt marks t) (drop 1 (take s text))) front ∙ ap (λ o. mark_or_none o (drop 1 (take s text))) none
    ]

pub none_there : (text : List ℕ) → item_at text ≡ refused NoToken → begins_char text ≡ false → begins_comment text ≡ false → (len : ℕ) → len ≤ length text → IsOneItem (take len text) → ⊥
none_there text e c o zero h one = nothing_one one
none_there text e c o (suc len) h one =
    let first : byte (take (suc len) text) 0 ≡ byte text 0 = byte_cut text (suc len) 0 (omega arith) in
    let some : 0 < suc len = omega arith in
    elim (cases_Bool (is_space (byte text 0))) as (λ _. ⊥) [
      | inl is ↦ unless_no_token _ _ refl (sym (is_blank text is)) e
      | inr s ↦ elim (cases_Bool (is_letter (byte text 0))) as (λ _. ⊥) [
        | inl is ↦ unless_no_token _ _ (name_fails is_no_token (λ _ _. refl) refl refl text) (sym (is_name text s is)) e
        | inr l ↦ elim (cases_Bool (begins_number text)) as (λ _. ⊥) [
          | inl is ↦ unless_no_token _ _ (number_fails is_no_token (λ _ _. refl) refl refl text) (sym (is_number text s l is)) e
          | inr n ↦ elim (cases_Bool (byte text 0 == 39)) as (λ _. ⊥) [
            | inl is ↦ unless_no_token _ _ refl (sym (is_type_var text s l n is)) e
            | inr p ↦ elim (cases_Bool (byte text 0 == 34)) as (λ _. ⊥) [
              | inl is ↦
                  let broken = string_stays_broken text (suc len) some (sym (is_string text s l n p is) ∙ e) in
                  let at_cut = is_string (take (suc len) text) (ns text s l (suc len) some) (nl text s l (suc len) some) (nn text s l n (suc len)) (np text s l n p (suc len) some) (ap (λ b. b == 34) first ∙ is) in
                  one_not_refused (take (suc len) text) (refused NoToken) refl (at_cut ∙ broken) one
              | inr q ↦ elim (cases_Bool (is_symbol_char (byte text 0))) as (λ _. ⊥) [
                | inl is ↦ unless_no_token _ _ (symbol_fails is_no_token (λ _ _. refl) refl refl text) (sym (is_symbol text s l n p q c o is)) e
                | inr isnt ↦
                    let none = mark_stays_none text (suc len) some (sym (is_mark text s l n p q c o isnt) ∙ e) in
                    let at_cut = is_mark (take (suc len) text) (ns text s l (suc len) some) (nl text s l (suc len) some) (nn text s l n (suc len)) (np text s l n p (suc len) some) (nq text s l n p q (suc len) some) (nc text s l n p q c (suc len)) (no_bracket text s l n p q c o (suc len)) (ap is_symbol_char first ∙ isnt) in
                    one_not_refused (take (suc len) text) (refused NoToken) refl (at_cut ∙ none) one
              ]
            ]
          ]
        ]
      ]
    ]

-- no bytes are left after an item's own
none_left : (text : List ℕ) (len : ℕ) → drop len (take len text) ≡ []
none_left text len = drop_all len (take len text) (omega (arith, length-take len text))

some_left : (text : List ℕ) (len longer : ℕ) → len < longer → longer ≤ length text → drop len (take longer text) ≡ [] → ⊥
some_left text len longer h k e = absurd (omega (arith, ap length e, length-drop len (take longer text), length-take longer text))

found_rest : (k l : Lexeme) (r s : List ℕ) → found k r ≡ found l s → r ≡ s
found_rest k l r s e = cc

blank_rest : (r s : List ℕ) → blank r ≡ blank s → r ≡ s
blank_rest r s e = cc

pub items_are_longest : ItemsAreLongest
items_are_longest = record {
  tokens = λ text rest lexeme e.
      let i = token_cut text lexeme rest e in (
        i.len,
        record {
          some = i.some;
          within = i.within;
          rest_is = i.rest_is;
          by_itself = i.same i.len (omega arith) ∙ ap (found lexeme) (none_left text i.len);
          none_longer = λ longer h k one.
              let whole = i.same longer (omega arith) in
              elim one as (λ _. ⊥) [
                | inl b ↦ blank_found _ _ _ (sym b ∙ whole)
                | inr f ↦ some_left text i.len longer h k (found_rest _ _ _ _ (sym whole ∙ f.1))
              ];
        },
      );
  blanks = λ text rest e.
      let i = blank_cut text rest e in (
        i.len,
        record {
          some = i.some;
          within = i.within;
          rest_is = i.rest_is;
          by_itself = i.same i.len (omega arith) ∙ ap blank (none_left text i.len);
          none_longer = λ longer h k one.
              let whole = i.same longer (omega arith) in
              elim one as (λ _. ⊥) [
                | inl b ↦ some_left text i.len longer h k (blank_rest _ _ (sym whole ∙ b))
                | inr f ↦ blank_found _ _ _ (sym whole ∙ f.1)
              ];
        },
      );
  none_there = none_there;
}
