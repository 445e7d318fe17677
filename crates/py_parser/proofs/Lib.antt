mod Suites
mod Answered
