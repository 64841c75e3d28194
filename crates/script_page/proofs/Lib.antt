mod Replies
mod RestCalls
mod RestLemmas
mod RestSteps
