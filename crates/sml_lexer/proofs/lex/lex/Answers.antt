use Rattle.std.proofs.Common.{◌≡◌, ◌+◌, ◌≤◌, [], ◌∷◌, ◌++◌, length, drop, map, sym, ap, ◌∙◌, subst, arith, refl, length-drop}
use Rattle.std.proofs.lemmas.List.Elements.{All-nil, All-push, All-same}
use Rattle.mlc_names.specs.declared.token.Token.{Token}
use Rattle.sml_lexer.specs.declared.item.Item.TheVariants as code
use Rattle.sml_lexer.specs.Item.{refused, words_of}
use Rattle.sml_lexer.specs.ItemOf.{IsItem, FitsItem}
use Rattle.sml_lexer.specs.Items.{item_at}
use Rattle.sml_lexer.specs.Lexeme.{HoldsNames}
use Rattle.sml_lexer.specs.Lexes.{IsSlice, lexed_of, nothing}
use Rattle.sml_lexer.proofs.LexLemmas.{no_reading}
use Rattle.sml_lexer.proofs.NameLemmas.{keeps_on, keeps_same}
use Rattle.sml_lexer.proofs.TableLemmas.{table-blank, table-token}
use Rattle.sml_lexer.proofs.TokenLemmas.{all_names_stay, blank_reads, rises_on, rises_to, slices_stay, token_reads, token_slice}
use Rattle.sml_lexer.proofs.lex.lex.Goals as goal

pub items-init : goal.items-init
items-init c =
    let none = c.new-tokens.ensures.items in
    let bytes = c.args.bytes.now in
    let names = c.args.names.now in
    record {
      kept = keeps_same names;
      table = rw none refl;
      reads = rw none (nothing bytes);
      held = rw none (All-nil (λ (t : Token). HoldsNames names t.kind));
      slices = rw none (All-nil (IsSlice bytes names));
      spans = rw none (omega arith);
      within = omega arith;
    }

pub items-preserved-in-Blank : goal.items-preserved-in-Blank
items-preserved-in-Blank c =
    let bytes = c.args.bytes.now in
    let at = c.items.at in
    let a = c.items.names in
    let b = c.next_item.new.names in
    let tokens = c.items.tokens.items in
    let i = c.items.invariant in
    let len = c.in-Blank.len in
    let rest = c.rest.result.now in
    let k = c.in_ok-len.ensures.kept in
    let is = subst (λ x. IsItem b rest x (item_at rest)) c.in-Blank.is c.in_ok-len.ensures.item in
    let fits : FitsItem b rest (code.Blank len) = is.fits in
    let left : length rest ≡ length (drop at bytes) = ap length c.rest.ensures in
    record {
      kept = keeps_on c.args.names.now a b i.kept k;
      table = table-blank c.args.names.now a b tokens i.table (item_at rest) c.in_ok-len.ensures.table (drop len rest) is.same;
      reads = blank_reads a b bytes rest tokens at k i.held c.rest.ensures i.reads len is.same;
      held = all_names_stay a b tokens k i.held;
      slices = slices_stay bytes a b tokens k i.held i.slices;
      spans = rises_to 0 at (at + len) tokens i.spans (omega arith);
      within = omega (arith, fits.1, left, length-drop at bytes, i.within);
    }

pub items-preserved : goal.items-preserved
items-preserved c =
    let bytes = c.args.bytes.now in
    let at = c.items.at in
    let a = c.items.names in
    let b = c.next_item.new.names in
    let tokens = c.items.tokens.items in
    let more = c.push.new.self.items in
    let i = c.items.invariant in
    let len = c.in-Token.len in
    let kind = c.in-Token.kind in
    let t : Token = record { kind = kind; span = record { first = at; end = at + len } } in
    let rest = c.rest.result.now in
    let k = c.in_ok-len.ensures.kept in
    let is = subst (λ x. IsItem b rest x (item_at rest)) c.in-Token.is c.in_ok-len.ensures.item in
    let fits : FitsItem b rest (code.Token kind len) = is.fits in
    let left : length rest ≡ length (drop at bytes) = ap length c.rest.ensures in
    let within : at + len ≤ length bytes = omega (arith, fits.1, left, length-drop at bytes, i.within) in
    let longer : more ≡ tokens ++ t ∷ [] = c.in_ok-push-in-Token.ensures.items in
    let slice = token_slice a b bytes rest tokens at k i.held c.rest.ensures i.reads t len refl refl is.same in
    record {
      kept = keeps_on c.args.names.now a b i.kept k;
      table = table-token c.args.names.now a b tokens i.table (item_at rest) c.in_ok-len.ensures.table t more k i.held (ap words_of is.same) longer;
      reads = token_reads a b bytes rest tokens at k i.held c.rest.ensures i.reads t len refl refl is.same more longer within;
      held = All-same (λ (u : Token). HoldsNames b u.kind) more _ longer (All-push (λ (u : Token). HoldsNames b u.kind) tokens t (all_names_stay a b tokens k i.held) fits.2);
      slices = All-same (IsSlice bytes b) more _ longer (All-push (IsSlice bytes b) tokens t (slices_stay bytes a b tokens k i.held i.slices) slice);
      spans = rw longer (rises_on 0 at tokens t (at + len) i.spans refl (omega (arith, fits.0)) refl);
      within = within;
    }

pub returns-in-Refused-clause-no_tokens : goal.returns-in-Refused-clause-no_tokens
returns-in-Refused-clause-no_tokens c others reading =
    let bytes = c.args.bytes.now in
    let at = c.items.at in
    let b = c.next_item.new.names in
    let rest = c.rest.result.now in
    let is = subst (λ x. IsItem b rest x (item_at rest)) c.in-Refused.is c.in_ok-len.ensures.item in
    let no_item : item_at (drop at bytes) ≡ refused c.in-Refused.code = ap item_at (sym c.rest.ensures) ∙ sym is.same in
    let some : drop at bytes ≡ [] → ⊥ = λ e. absurd (omega (arith, ap length e, length-drop at bytes)) in
    no_reading (length bytes) bytes (drop at bytes) (map (lexed_of c.items.names) c.items.tokens.items) others c.in-Refused.code c.items.invariant.reads no_item some reading
