-- How the answer of a run comes of its steps.
use Rattle.std.proofs.Common.{◌≡◌, ℕ, Bool, true, false, List, Vec, Option, Some, Result, Ok, Err, inl, inr, refl, sym}
use Rattle.std.proofs.Common.{ap, ◌∙◌, subst, true≢false}
use Rattle.std.specs.declared.alloc.Global.{Global}
use Rattle.model.specs.Outcome.{◌>>=◌}
use Rattle.model.specs.Content.{Content}
use Rattle.index_reader.specs.declared.skip.Skip.{Skip}
use Rattle.lockfile.specs.Locks.{content_of_bytes}
use Rattle.lockfile.specs.Spelling.{spelling}
use Rattle.lockfile.specs.declared.fault.LockFault.{LockFault}
use Rattle.catalogue.specs.Runs.{Calls}
use Rattle.catalogue.specs.Sources.{is_source}
use Rattle.vertices.proofs.Bound.{same-Ok}
use Rattle.resolver.specs.Inputs.{input_wants_memory, RequestView, AreRead, EndsWith, UnlessMemory, names_of}
use Rattle.resolver.specs.Inputs.{old_of_bytes, problem_of}
use Rattle.resolver.specs.Inputs.IsCutShort.{after_loading}
use Rattle.resolver.specs.Answers.{AreSkips, CanKeep, IsAnswer, IsUnanswered, MeansSelection, Resolves}
use Rattle.resolver.specs.Answers.IsAnswer.{kept_lock, new_lock, no_lock}
use Rattle.resolver.specs.inner.Replies.{HoldsOld, IsKept, IsMisread, IsNew, IsReply, IsWritten, RepliesWith}
use Rattle.resolver.specs.inner.Replies.{with_skips}
use Rattle.resolver.specs.inner.Same.{same_content}
use Rattle.resolver.specs.declared.inputs.Inputs.{Inputs}
use Rattle.resolver.specs.declared.fault.Fault.{Fault}
use Rattle.resolver.specs.declared.fault.Fault.TheVariants as fault
use Rattle.resolver.specs.declared.resolving.Answer.TheVariants.{Lock}
use Rattle.resolver.specs.declared.resolving.Reply.{Reply}
use Rattle.resolver.specs.declared.resolving.Reply.TheVariants as reply
use Rattle.resolver.proofs.Sameness.{content-same, content-refl}
use Rattle.resolver.proofs.Unread.{unreadable}

got : {E : Type 0} → Content → Result Content E → Content
got other (Ok content) = content
got other (Err e) = other

-- what reads as the same content is written
pub is_written : (content again : Content) (bytes : List ℕ) → bytes ≡ spelling content
    → content_of_bytes bytes ≡ Ok again
    → same_content again content ≡ true → IsWritten content bytes
is_written content again bytes spelled reads same =
    record { spelled = spelled; reads = reads ∙ ap Ok (content-same again content same) }

-- what reads as another content doesn't read back
pub not_written : (content again : Content) (bytes : List ℕ) → bytes ≡ spelling content
    → content_of_bytes bytes ≡ Ok again
    → same_content again content ≡ false → content_of_bytes (spelling content) ≡ Ok content → ⊥
unfolding got
not_written content again bytes spelled reads other back =
    let same : again ≡ content = ap (got again) (sym reads ∙ ap content_of_bytes spelled ∙ back) in
    true≢false (sym (content-refl content) ∙ ap (λ a. same_content a content) (sym same) ∙ other)

-- ---- the old lock

-- what the old lock's bytes say
old-says : (bytes : List ℕ) (content : Content) (o : Option Content) → old_of_bytes (Some bytes) ≡ Ok o
    → o ≡ Some content → content_of_bytes bytes ≡ Ok content
old-says bytes content o h is = by (content_of_bytes bytes) h
  where
    by : (r : Result Content LockFault) → (r >>= λ c. Ok (Some c)) ≡ Ok o → r ≡ Ok content
    by (Ok c) e = let same : Some c ≡ Some content = same-Ok (Some c) o e ∙ is in cc
    by (Err f) e = cc

-- bytes that mean a selection are those of an old lock that holds one, and the other way round
can-hold : (old : Option (List ℕ)) (inputs : Inputs) → old_of_bytes old ≡ Ok inputs.old
    → CanKeep old inputs → HoldsOld inputs
can-hold old inputs says (bytes, own, means) = (
  means.content,
  same-Ok inputs.old (Some means.content)
      (sym says ∙ ap old_of_bytes own ∙ ap (λ r. r >>= λ c. Ok (Some c)) means.reads),
  means.valid,
)

means-old : (old : Option (List ℕ)) (inputs : Inputs) (bytes : List ℕ) → old_of_bytes old ≡ Ok inputs.old
    → old ≡ Some bytes → HoldsOld inputs → MeansSelection (problem_of inputs) bytes
means-old old inputs bytes says own (content, is, valid) =
    record {
      content = content;
      reads =
          old-says bytes content inputs.old (ap old_of_bytes (sym own) ∙ says) is;
      valid = valid;
    }

-- ---- an answer

-- a lock is kept or new as it says
of-kept : (old : Option (List ℕ)) (inputs : Inputs) (bytes : Vec ℕ Global) (said : Bool) (skips : Vec Skip Global)
    → old_of_bytes old ≡ Ok inputs.old → AreSkips inputs skips
    → said ≡ true → IsKept old inputs bytes.items said → IsAnswer old inputs (Lock bytes said skips)
of-kept old inputs bytes said skips says skipped is k =
    subst (λ b. IsAnswer old inputs (Lock bytes b skips)) (sym is)
    (kept_lock bytes skips k.own (means-old old inputs bytes.items says k.own k.holds) skipped)

of-new : (old : Option (List ℕ)) (inputs : Inputs) (bytes : Vec ℕ Global) (said : Bool) (skips : Vec Skip Global)
    → old_of_bytes old ≡ Ok inputs.old → AreSkips inputs skips
    → said ≡ false → IsNew inputs bytes.items said → IsAnswer old inputs (Lock bytes said skips)
of-new old inputs bytes said skips says skipped is n =
    subst (λ b. IsAnswer old inputs (Lock bytes b skips)) (sym is)
    (new_lock bytes skips n.content (λ can. n.not_held (can-hold old inputs says can)) n.reads n.spelled n.chosen
    skipped)

-- an answer is a reply with the skipped lines
pub answered : (old : Option (List ℕ)) (inputs : Inputs) (given : Reply) (skips : Vec Skip Global)
    → old_of_bytes old ≡ Ok inputs.old → AreSkips inputs skips → IsReply old inputs given
    → IsAnswer old inputs (with_skips given skips)
answered old inputs (reply.Lock bytes said) skips says skipped (inl k) =
    of-kept old inputs bytes said skips says skipped k.is_kept k
answered old inputs (reply.Lock bytes said) skips says skipped (inr n) =
    of-new old inputs bytes said skips says skipped n.is_new n
answered old inputs (reply.Unsolvable derivation text) skips says skipped e =
    no_lock derivation text skips e.unsolvable e.explained skipped

-- ---- the call

-- a fault after loading leaves the loaded folder
pub ended : {S : Type 0} (calls : Calls S) (failed : S → ℕ) (request : RequestView) (before after : S) (inputs : Inputs)
    (b : Bool) {A B : Type 0}
    → AreRead calls failed request before inputs after → (A → B) → UnlessMemory b A
    → EndsWith calls failed request before b B after
ended calls failed request before after inputs true read f h = (names_of inputs, after_loading inputs after read)
ended calls failed request before after inputs false read f h = f h

-- what is misread is so with this fault alone, and for a reason
misread : {S : Type 0} (calls : Calls S) (failed : S → ℕ) (request : RequestView) (before after : S) (inputs : Inputs)
    (f : Fault) → is_source request.source ≡ true
    → AreRead calls failed request before inputs after → (CanKeep request.old inputs → ⊥) → IsMisread inputs f
    → IsUnanswered calls failed request before f after
misread calls failed request before after inputs fault.NotReadBack address read not_kept (content, chosen, other) =
    record {
      inputs = inputs;
      read = read;
      not_kept = not_kept;
      fault_is = refl;
      content = content;
      chosen = chosen;
      misread = other;
      why = unreadable calls failed request before inputs after address read content chosen other;
    }
misread calls failed request before after inputs fault.OutOfMemory address read not_kept h = absurd h
misread calls failed request before after inputs fault.ManifestNotToml address read not_kept h = absurd h
misread calls failed request before after inputs (fault.ManifestShape part) address read not_kept h = absurd h
misread calls failed request before after inputs (fault.UnsupportedSource kind) address read not_kept h = absurd h
misread calls failed request before after inputs (fault.BadRequirement name) address read not_kept h = absurd h
misread calls failed request before after inputs (fault.RootFeature e name) address read not_kept h = absurd h
misread calls failed request before after inputs fault.LockNotToml address read not_kept h = absurd h
misread calls failed request before after inputs fault.LockVersion address read not_kept h = absurd h
misread calls failed request before after inputs fault.LockShape address read not_kept h = absurd h
misread calls failed request before after inputs (fault.FolderFailed path) address read not_kept h = absurd h
misread calls failed request before after inputs (fault.TooLarge which) address read not_kept h = absurd h
misread calls failed request before after inputs (fault.ChecksumChanged name version) address read not_kept h = absurd h

pub unanswered : {S : Type 0} (calls : Calls S) (failed : S → ℕ) (request : RequestView) (before after : S)
    (inputs : Inputs) (f : Fault) → is_source request.source ≡ true
    → AreRead calls failed request before inputs after → RepliesWith request.old inputs (Err f)
    → Resolves calls failed request before (Err f) after
unanswered calls failed request before after inputs f address read h =
    ended calls failed request before after inputs (input_wants_memory f) read
    (λ (w : (HoldsOld inputs → ⊥) × IsMisread inputs f).
    inr (misread calls failed request before after inputs f address read
    (λ can. w.0 (can-hold request.old inputs read.lock_says can)) w.1)) h
