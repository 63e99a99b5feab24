-- Texts that are read, and texts that aren't.
use Rattle.std.proofs.Common.{◌≡◌, ℕ, pos, [], ◌∷◌, true, refl}
use Rattle.mlc_names.specs.declared.token.Reserved.TheVariants as res
use Rattle.sml_tree.specs.Fixity.{Fixity}
use Rattle.sml_tree.specs.Terminal.{reserved, number, alpha, int, LongId}
use Rattle.sml_tree.specs.ReadTree.{Placed, con_ty, no_tys, constant_exp, local_dec, open_dec, no_decs, dec}
use Rattle.sml_grammar.specs.Answer.{bad, deep, read, many}
use Rattle.sml_grammar.specs.Types.{read_ty}
use Rattle.sml_grammar.specs.Patterns.{read_pats}
use Rattle.sml_grammar.specs.Expressions.{readers}
use Rattle.module_tree.specs.ReadModules.{transparent, opaque, sig_end, sig_id, where_type, no_specs, spec, type_spec, include_ids, sharing_spec, no_sig, sealed, struct_end, str_id, constrained, applied_to_decs, no_str_decs, str_dec, core_dec, structure_dec, local_str, last_str, str_bind, structure_parameter, spec_parameter, signature_top, functor_top, str_top, exp_top}
use Rattle.module_grammar.specs.Signatures.{read_sig}
use Rattle.module_grammar.specs.Structures.{str_readers}
use Rattle.module_grammar.specs.Sources.{read_source}

abbrev none : Fixity
none = []

abbrev A : ℕ
A = 20

abbrev B : ℕ
B = 21

abbrev x : ℕ
x = 22

abbrev at : ℕ → ℕ → Placed ℕ
at p y = record { place = p; it = y }

abbrev long_at : ℕ → ℕ → Placed LongId
long_at p y = record { place = p; it = record { qualifiers = []; id = y } }

-- structure A = B
reads-alias : read_source 2 none (reserved 0 res.Structure ∷ alpha 1 A ∷ reserved 2 res.Equals ∷ alpha 3 B ∷ [])
    ≡ read (str_top (structure_dec 0 (last_str (str_bind (at 1 A) no_sig (str_id (long_at 3 B))))) ∷ []) []
unfolding many readers read_ty read_pats read_sig str_readers
reads-alias = refl

-- structure A : B = A (open B) : B
reads-application : read_source 2 none
    (reserved 0 res.Structure ∷ alpha 1 A ∷ reserved 2 res.Colon ∷ alpha 3 B ∷ reserved 4 res.Equals ∷ alpha 5 A ∷ reserved 6 res.LeftParen
    ∷ reserved 7 res.Open ∷ alpha 8 B ∷ reserved 9 res.RightParen ∷ reserved 10 res.ColonGreater ∷ alpha 11 B ∷ [])
    ≡ read (str_top (structure_dec 0 (last_str (str_bind (at 1 A) (sealed transparent (sig_id 3 B))
    (constrained (applied_to_decs (at 5 A) (str_dec (core_dec (open_dec 7 (long_at 8 B ∷ []))) no_str_decs)) opaque (sig_id 11 B))))) ∷ []) []
unfolding many readers read_ty read_pats read_sig str_readers
reads-application = refl

-- local open A in end: all core, so a declaration of the core; with a structure inside it isn't
reads-core-local : read_source 2 none (reserved 0 res.Local ∷ reserved 1 res.Open ∷ alpha 2 A ∷ reserved 3 res.In ∷ reserved 4 res.End ∷ [])
    ≡ read (str_top (core_dec (local_dec 0 (dec (open_dec 1 (long_at 2 A ∷ [])) no_decs) no_decs)) ∷ []) []
unfolding many readers read_ty read_pats read_sig str_readers
reads-core-local = refl

reads-local : read_source 3 none (reserved 0 res.Local ∷ reserved 1 res.Structure ∷ alpha 2 A ∷ reserved 3 res.Equals ∷ alpha 4 B ∷ reserved 5 res.In ∷ reserved 6 res.End ∷ [])
    ≡ read (str_top (local_str 0 (str_dec (structure_dec 1 (last_str (str_bind (at 2 A) no_sig (str_id (long_at 4 B))))) no_str_decs) no_str_decs) ∷ []) []
unfolding many readers read_ty read_pats read_sig str_readers
reads-local = refl

-- signature A = sig include A B sharing type x = x end where type x = x and type x = x
reads-signature : read_source 4 none
    (reserved 0 res.Signature ∷ alpha 1 A ∷ reserved 2 res.Equals ∷ reserved 3 res.Sig ∷ reserved 4 res.Include ∷ alpha 5 A ∷ alpha 6 B
    ∷ reserved 7 res.Sharing ∷ reserved 8 res.TypeWord ∷ alpha 9 x ∷ reserved 10 res.Equals ∷ alpha 11 x ∷ reserved 12 res.End
    ∷ reserved 13 res.Where ∷ reserved 14 res.TypeWord ∷ alpha 15 x ∷ reserved 16 res.Equals ∷ alpha 17 x
    ∷ reserved 18 res.And ∷ reserved 19 res.TypeWord ∷ alpha 20 x ∷ reserved 21 res.Equals ∷ alpha 22 x ∷ [])
    ≡ read (signature_top 0 (record {
      sigid = at 1 A;
      sigexp = where_type
          (sig_end 3 (spec (include_ids 4 (at 5 A ∷ at 6 B ∷ [])) (spec (sharing_spec 7 (long_at 9 x ∷ long_at 11 x ∷ [])) no_specs)))
          (record { place = 14; tyvars_place = 14; tyvars = []; tycon = long_at 15 x; ty = con_ty 17 no_tys (long_at 17 x) }
          ∷ record { place = 19; tyvars_place = 19; tyvars = []; tycon = long_at 20 x; ty = con_ty 22 no_tys (long_at 22 x) } ∷ []);
    } ∷ []) ∷ []) []
unfolding many readers read_ty read_pats read_sig str_readers
reads-signature = refl

-- functor A (type x) = struct end, and functor A (B : A) = B
reads-functor : read_source 3 none
    (reserved 0 res.Functor ∷ alpha 1 A ∷ reserved 2 res.LeftParen ∷ reserved 3 res.TypeWord ∷ alpha 4 x ∷ reserved 5 res.RightParen ∷ reserved 6 res.Equals
    ∷ reserved 7 res.Struct ∷ reserved 8 res.End ∷ reserved 9 res.And ∷ alpha 10 B ∷ reserved 11 res.LeftParen ∷ alpha 12 B ∷ reserved 13 res.Colon
    ∷ alpha 14 A ∷ reserved 15 res.RightParen ∷ reserved 16 res.Equals ∷ alpha 17 B ∷ [])
    ≡ read (functor_top 0
    (record {
      funid = at 1 A;
      parameter = spec_parameter 2 (spec (type_spec 3 (record { place = 4; tyvars = []; tycon = x } ∷ [])) no_specs);
      result = no_sig;
      body = struct_end 7 no_str_decs;
    }
    ∷ record { funid = at 10 B; parameter = structure_parameter (at 12 B) (sig_id 14 A); result = no_sig; body = str_id (long_at 17 B) } ∷ []) ∷ []) []
unfolding many readers read_ty read_pats read_sig str_readers
reads-functor = refl

-- 1 ; 1 ; stands at the start and after `;`, and nowhere else
reads-expressions : read_source 2 none (number 0 (pos 1) true ∷ reserved 1 res.Semicolon ∷ number 2 (pos 1) true ∷ reserved 3 res.Semicolon ∷ [])
    ≡ read (exp_top (constant_exp 0 (int (pos 1))) ∷ exp_top (constant_exp 2 (int (pos 1))) ∷ []) []
unfolding many readers read_ty read_pats read_sig str_readers
reads-expressions = refl

-- open A 1 ;
no-expression : read_source 2 none (reserved 0 res.Open ∷ alpha 1 A ∷ number 2 (pos 1) true ∷ reserved 3 res.Semicolon ∷ []) ≡ bad
unfolding many readers read_ty read_pats read_sig str_readers
no-expression = refl

-- structure A = B, at most no phrase deep
too-deep : read_source 0 none (reserved 0 res.Structure ∷ alpha 1 A ∷ reserved 2 res.Equals ∷ alpha 3 B ∷ []) ≡ deep
unfolding many readers read_ty read_pats read_sig str_readers
too-deep = refl
