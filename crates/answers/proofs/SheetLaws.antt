-- Laws of sheets: one text behind another. Assumes nothing.
use Prim.Native.Nat.{ℕ, ◌≤◌}
use mathlib.Core.Path.{◌≡◌, refl, sym, subst, ◌∙◌}
use mathlib.Core.List.{List, [], ◌++◌}
use lib.ListN.{length}
use Rattle.answers.specs.declared.Sheet.{Sheet}
use Rattle.answers.specs.Answers.{Put}
use Rattle.answers.specs.Sheets.{Puts}
use Rattle.answers.proofs.PutLaws.{put_none, put_both, put_same}

-- no text
pub puts_none : {s : Sheet} → s.at ≤ length s.out.now → Puts s [] s
puts_none h = record { put = put_none h; long = refl }

-- one text behind another
pub puts_both : {s t u : Sheet} {text more : List ℕ} → Puts s text t → Puts t more u → Puts s (text ++ more) u
puts_both p q = record { put = put_both p.put q.put; long = q.long ∙ p.long }

-- another name of the text
pub puts_same : {s t : Sheet} {text more : List ℕ} → text ≡ more → Puts s text t → Puts s more t
puts_same e p = record { put = put_same e p.put; long = p.long }

-- what the slice of a sheet holds, under another name
pub puts_out : {s t : Sheet} {text out : List ℕ} → Puts s text t → out ≡ t.out.now → Put s.out.now s.at text out t.at
puts_out {s} {t} {text} {out} p e = subst (λ (l : List ℕ). Put s.out.now s.at text l t.at) (sym e) p.put
