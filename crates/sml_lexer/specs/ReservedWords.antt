-- Reserved words: sections 2.1 and 3.1.
use Rattle.std.specs.Prelude.{ℕ, zero, suc, List, [], ◌∷◌, Option, Some, None, ◌==◌, codes, take, if◌then◌else◌}
use Rattle.std.specs.List.{filter}
use Rattle.std.specs.Str.{bytes_eq}
use Rattle.mlc_names.specs.declared.token.Reserved.{Reserved}
use Rattle.mlc_names.specs.declared.token.Reserved.TheVariants.{Abstype, And, Andalso, As, Case, Datatype, Do, Else, End, Eqtype, Exception, Fn, Fun, Functor, Handle, If, In, Include, Infix, Infixr, Let, Local, Nonfix, Of, Op, Open, Orelse, Raise, Rec, Sharing, Sig, Signature, Struct, Structure, Then, TypeWord, Val, Where, While, With, Withtype, LeftParen, RightParen, LeftBracket, RightBracket, LeftBrace, RightBrace, Comma, Semicolon, Dots, Underscore, Colon, ColonGreater, Bar, Equals, DoubleArrow, Arrow, Hash}
use Rattle.sml_lexer.specs.Chars.{byte}

abbrev pub spelling : Reserved → List ℕ
spelling Abstype = codes "abstype"
spelling And = codes "and"
spelling Andalso = codes "andalso"
spelling As = codes "as"
spelling Case = codes "case"
spelling Datatype = codes "datatype"
spelling Do = codes "do"
spelling Else = codes "else"
spelling End = codes "end"
spelling Eqtype = codes "eqtype"
spelling Exception = codes "exception"
spelling Fn = codes "fn"
spelling Fun = codes "fun"
spelling Functor = codes "functor"
spelling Handle = codes "handle"
spelling If = codes "if"
spelling In = codes "in"
spelling Include = codes "include"
spelling Infix = codes "infix"
spelling Infixr = codes "infixr"
spelling Let = codes "let"
spelling Local = codes "local"
spelling Nonfix = codes "nonfix"
spelling Of = codes "of"
spelling Op = codes "op"
spelling Open = codes "open"
spelling Orelse = codes "orelse"
spelling Raise = codes "raise"
spelling Rec = codes "rec"
spelling Sharing = codes "sharing"
spelling Sig = codes "sig"
spelling Signature = codes "signature"
spelling Struct = codes "struct"
spelling Structure = codes "structure"
spelling Then = codes "then"
spelling TypeWord = codes "type"
spelling Val = codes "val"
spelling Where = codes "where"
spelling While = codes "while"
spelling With = codes "with"
spelling Withtype = codes "withtype"
spelling LeftParen = codes "("
spelling RightParen = codes ")"
spelling LeftBracket = codes "["
spelling RightBracket = codes "]"
spelling LeftBrace = codes "{"
spelling RightBrace = codes "}"
spelling Comma = codes ","
spelling Semicolon = codes ";"
spelling Dots = codes "..."
spelling Underscore = codes "_"
spelling Colon = codes ":"
spelling ColonGreater = codes ":>"
spelling Bar = codes "|"
spelling Equals = codes "="
spelling DoubleArrow = codes "=>"
spelling Arrow = codes "->"
spelling Hash = codes "#"

-- those that are alphanumeric
abbrev pub words : List Reserved
words = Abstype ∷ And ∷ Andalso ∷ As ∷ Case ∷ Datatype ∷ Do ∷ Else ∷ End ∷ Eqtype ∷ Exception ∷ Fn ∷ Fun ∷ Functor ∷ Handle ∷ If ∷ In ∷ Include ∷ Infix ∷ Infixr
    ∷ Let ∷ Local ∷ Nonfix ∷ Of ∷ Op ∷ Open ∷ Orelse ∷ Raise ∷ Rec ∷ Sharing ∷ Sig ∷ Signature ∷ Struct ∷ Structure ∷ Then ∷ TypeWord ∷ Val ∷ Where ∷ While
    ∷ With ∷ Withtype ∷ []

-- those that are symbolic
abbrev pub symbolic : List Reserved
symbolic = Colon ∷ ColonGreater ∷ Bar ∷ Equals ∷ DoubleArrow ∷ Arrow ∷ Hash ∷ []

-- those that are marks of one character
abbrev pub marks : List Reserved
marks = LeftParen ∷ RightParen ∷ LeftBracket ∷ RightBracket ∷ LeftBrace ∷ RightBrace ∷ Comma ∷ Semicolon ∷ Underscore ∷ []

-- those of these words that begin with this byte
abbrev pub beginning : ℕ → List Reserved → List Reserved
beginning first words = filter (λ word. byte (spelling word) 0 == first) words

-- the one of these that a text spells
abbrev pub spelt : List Reserved → List ℕ → Option Reserved
spelt [] text = None
spelt (word ∷ others) text = if bytes_eq (spelling word) text then Some word else spelt others text

abbrev pub free_or : Option Reserved → ℕ → ℕ → ℕ
free_or None len shorter = len
free_or (Some word) len shorter = shorter

-- the length of the longest front that spells none of these words, of the fronts of at most so many bytes
abbrev pub free_len : List Reserved → ℕ → List ℕ → ℕ
free_len taken zero text = 0
free_len taken (suc len) text = free_or (spelt taken (take (suc len) text)) (suc len) (free_len taken len text)
